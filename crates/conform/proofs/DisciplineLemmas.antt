-- The rules of the parts of the discipline are those of the step.
use Rattle.std.proofs.Common.{◌≡◌, ◌≢◌, ℕ, List, Option, Some, None, true, false}
use Rattle.std.specs.Prelude.{IfNone, IfSome}
use Rattle.pools.specs.Heap.{Setup}
use Rattle.colours.specs.Steps.{Step, ReadWord, ReadOldValue, Mark, StoreAfterBarrier, StorePlain, StoreStage}
use Rattle.colours.specs.Mutator.{IsDisciplined}
use Rattle.conform.specs.declared.rule.Rule.{Rule}
use Rattle.conform.specs.declared.rule.Rule.TheVariants as rule
use Rattle.conform.specs.Discipline.{IsWordRule, IsBarrieredRule, IsPlainRule, IsRootRule}
use Rattle.conform.specs.Rules.{AsksOfStep}

module _ (s : Setup) (t : ℕ) (log : List Step) where
  -- what is told of a step: that it keeps the discipline, or a rule that it breaks
  abbrev pub IsTold : Step → Option Rule → Type 0
  IsTold step None = IsDisciplined s log step
  IsTold step (Some r) = ¬ AsksOfStep r s t log step

  pub read_told : (cell word value : ℕ) (o : Option Rule) → IsWordRule s log cell word false o → IsTold (ReadWord cell word value) o
  read_told cell word value None h = h
  read_told cell word value (Some rule.NotHeld) h = h
  read_told cell word value (Some rule.Word) h = h
  read_told cell word value (Some _) h = absurd h

  pub old_told : (cell word value : ℕ) (o : Option Rule) → IsWordRule s log cell word true o → IsTold (ReadOldValue cell word value) o
  old_told cell word value None h = h
  old_told cell word value (Some rule.NotHeld) h = h
  old_told cell word value (Some rule.Word) h = h
  old_told cell word value (Some _) h = absurd h

  pub barriered_told : (cell word value : ℕ) (o : Option Rule) → IsBarrieredRule s log cell word value o → IsTold (StoreAfterBarrier cell word value) o
  barriered_told cell word value None h = h
  barriered_told cell word value (Some rule.NotHeld) h = h
  barriered_told cell word value (Some rule.Word) h = h
  barriered_told cell word value (Some rule.StoredValue) h = h
  barriered_told cell word value (Some _) h = absurd h

  pub plain_told : (cell word value : ℕ) (o : Option Rule) → IsPlainRule s log cell word value o → IsTold (StorePlain cell word value) o
  plain_told cell word value None h = h
  plain_told cell word value (Some rule.NotHeld) h = h
  plain_told cell word value (Some rule.Word) h = h
  plain_told cell word value (Some rule.NotFresh) h = h
  plain_told cell word value (Some rule.StoredValue) h = h
  plain_told cell word value (Some _) h = absurd h

  pub roots_told : (stage : ℕ) (roots : List ℕ) (o : Option Rule) → IsRootRule s log roots o → IsTold (StoreStage stage roots) o
  roots_told stage roots None h = h
  roots_told stage roots (Some rule.RootNotHeld) h = h
  roots_told stage roots (Some _) h = absurd h

  pub none_of : (step : Step) (o : Option Rule) → IsTold step o → IfNone o (IsDisciplined s log step)
  none_of step None h = h
  none_of step (Some r) h = tt

  pub some_of : (step : Step) (o : Option Rule) → IsTold step o → IfSome o (λ r. ¬ AsksOfStep r s t log step)
  some_of step None h = tt
  some_of step (Some r) h = h
