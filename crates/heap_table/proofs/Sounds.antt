-- What is true of a thread's log stays true after a step that was made.
use Rattle.std.proofs.Common.{◌≡◌, ◌≢◌, ℕ, ◌<◌, ◌==◌, ◌&&◌, not, inl, inr, true, Option, Some, None, List, ◌∷◌, sym, ap, subst, ◌∙◌, arith}
use Rattle.pools.specs.Heap.{Setup, cells, kind_of}
use Rattle.pools.specs.declared.word_kind.WordKind.{WordKind}
use Rattle.pools.specs.declared.word_kind.WordKind.TheVariants.{Integer, Reference}
use Rattle.pools.specs.Layouts.{is_reference_kind}
use Rattle.lemmas.specs.Bools.{and_parts}
use Rattle.lemmas.specs.Numbers.{test_true, not_null}
use Rattle.colours.specs.Steps.{Step, ReadWord, ReadOldValue, Claim}
use Rattle.colours.specs.Mutator.{stage_of, phase_of, MayFollow, MayFind, IsPossible, IsPossibleLog, gains}
use Rattle.colours.specs.Runs.{ByThread}
use Rattle.collector_law.specs.Theorems.{answers_possible, claim_cell}
use Rattle.heap_rule.specs.View.{OfThread}
use Rattle.heap_rule.specs.Rule.{Happens}
use Rattle.heap_rule.specs.Shares.{own_log}
use Rattle.heap_table.specs.Holders.{Holder, IsOfRun, with_log}
use Rattle.heap_table.specs.Nexts.{HoldsCells, IsStage}

found_cell : (s : Setup) (log : List Step) (k : Option WordKind) (value c : ℕ) → MayFind s log k value → is_reference_kind k ≡ true → c ≡ value → c ≢ 0 → (0 < c) × (c < cells s)
found_cell s log None value c m r e n = absurd cc
found_cell s log (Some (Integer bits)) value c m r e n = absurd cc
found_cell s log (Some (Reference layout)) value c (inl z) r e n = absurd (n (e ∙ z))
found_cell s log (Some (Reference layout)) value c (inr l) r e n = let o = l.0 in (omega (arith, e, o.0), omega (arith, e, o.1))

read_cell : (s : Setup) (log : List Step) (k : Option WordKind) (value c : ℕ) → MayFind s log k value → (is_reference_kind k && (c == value) && not (c == 0)) ≡ true → (0 < c) × (c < cells s)
read_cell s log k value c m h = let a = and_parts _ _ h in let b = and_parts _ _ a.0 in found_cell s log k value c m b.0 (test_true c value b.1) (not_null c a.1)

-- what a step gives a thread is a cell
gained : (s : Setup) (stage : ℕ) (log : List Step) (t : ℕ) (step : Step) (c : ℕ) → MayFollow s stage (phase_of s t log) step → IsPossible s log step → gains s step c ≡ true → (0 < c) × (c < cells s)
gained s stage log t (ReadWord cell word value) c f m h = read_cell s log (kind_of s cell word) value c m h
gained s stage log t (ReadOldValue cell word value) c f m h = read_cell s log (kind_of s cell word) value c m h
gained s stage log t (Claim cell won) c f m h = let k = claim_cell s stage (phase_of s t log) cell won f in let e : c ≡ cell = test_true c cell (and_parts _ _ h).1 in (omega (arith, e, k.0), omega (arith, e, k.1))
gained s stage log t _ c f m h = absurd cc

module _ (s : Setup) (t : ℕ) (log : List Step) (step : Step) (h : Happens s (OfThread t log) (ByThread t step)) where
  -- what it found is possible
  pub possible : IsPossible s log step
  possible = subst (λ (l : List Step). IsPossible s l step) h.mine (answers_possible s h.run t step h.is_run)

  may : MayFollow s (stage_of log) (phase_of s t log) step
  may = subst (λ (l : List Step). MayFollow s (stage_of l) (phase_of s t l) step) h.mine h.is_run.run_of.1.1

  -- the thread holds cells still
  pub cells_next : HoldsCells s log → HoldsCells s (step ∷ log)
  cells_next k c (inl g) = gained s (stage_of log) log t step c may possible g
  cells_next k c (inr l) = k c l.1

-- the log with the step is a share of a run
pub of_run_next : (token : Holder) (step : Step) → Happens token.setup (OfThread token.thread token.log) (ByThread token.thread step) → IsPossibleLog token.setup token.log → IsOfRun (with_log token (step ∷ token.log))
of_run_next token step h k = record {
  run = ByThread token.thread step ∷ h.run;
  is_run = h.is_run;
  mine = own_log token.thread step h.run ∙ ap (λ (l : List Step). step ∷ l) h.mine;
  possible = (k, possible token.setup token.thread token.log step h);
}

-- a step that leaves the stage
pub stage_stays : (log after : List Step) (stage : ℕ) → stage_of after ≡ stage_of log → IsStage log stage → IsStage after stage
stage_stays log after stage e k n = let was = k (λ d. n (e ∙ d)) in (was.0 ∙ sym e, was.1)
