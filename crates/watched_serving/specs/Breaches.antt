-- Calls that a thread may not make, and why.
use Rattle.std.specs.Prelude.{ℕ, List}
use Rattle.pools.specs.Heap.{Setup}
use Rattle.colours.specs.Steps as step
use Rattle.colours.specs.Steps.{Step, ReadWord, StoreAfterBarrier, StoreStage}
use Rattle.colours.specs.Mutator.{IsDisciplined}
use Rattle.runs.specs.Machine.{WordValue, Action, Read, StorePlain, Write, Safepoint, Wrong}
use Rattle.runs.specs.Moves.{cells_of}
use Rattle.watched.specs.Reasons.{IsUseReason, IsPlainReason, IsWriteReason, IsRootReason}
use Rattle.watched_serving.specs.declared.breach.Breach.{Breach}
use Rattle.watched_serving.specs.declared.breach.Breach.TheVariants as breach

-- Whatever is found, the call breaks the discipline after this log: its read or its store does, or an answer with these roots. A call
-- of an instruction that has no meaning always does.
abbrev pub Breaks : Setup → List Step → (roots : List WordValue) → Action → Type 0
Breaks s log roots (Read base word) = (value : ℕ) → ¬ IsDisciplined s log (ReadWord base.cell word value)
Breaks s log roots (StorePlain base word value) = ¬ IsDisciplined s log (step.StorePlain base.cell word value.cell)
Breaks s log roots (Write base word value) = ¬ IsDisciplined s log (StoreAfterBarrier base.cell word value.cell)
Breaks s log roots Safepoint = (stage : ℕ) → ¬ IsDisciplined s log (StoreStage stage (cells_of roots))
Breaks s log roots Wrong = Unit {0}
Breaks s log roots action = ⊥

-- why it does
abbrev pub IsReason : Setup → List Step → (roots : List WordValue) → Action → Breach → Type 0
IsReason s log roots (Read base word) (breach.Refused why) = IsUseReason s log base.cell word why
IsReason s log roots (StorePlain base word value) (breach.Refused why) = IsPlainReason s log base.cell word value.cell why
IsReason s log roots (Write base word value) (breach.Refused why) = IsWriteReason s log base.cell word value.cell why
IsReason s log roots Safepoint (breach.Refused why) = IsRootReason s log (cells_of roots) why
IsReason s log roots Wrong breach.Wrong = Unit {0}
IsReason s log roots action breach = ⊥

-- a thread with these roots may not make the call after this log, for this reason
pub record IsBreach (s : Setup) (log : List Step) (roots : List WordValue) (action : Action) (breach : Breach) : Type 0 where
  pub breaks : Breaks s log roots action
  pub reason : IsReason s log roots action breach
