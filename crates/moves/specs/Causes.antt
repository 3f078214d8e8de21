-- How a move itself breaks a run, by the shared words before it.
use Rattle.std.specs.Prelude.{List, ℕ, ◌≡◌, ◌≢◌, Option, Some, None, slice_index}
use Rattle.pools.specs.Heap.{Setup}
use Rattle.runs.specs.Machine.{WordValue, Machine}
use Rattle.runs.specs.ModuleRuns.{Happening}
use Rattle.runs.specs.Broken as broken
use Rattle.runs.specs.Broken.{WentWrong, TouchedGone, IsCause}
use Rattle.moves.specs.declared.cause.Cause.{Cause}
use Rattle.moves.specs.declared.cause.Cause.TheVariants.{Wrong, TouchBlue, TouchBirth}
use Rattle.moves.specs.declared.moves.Move.{Move}
use Rattle.moves.specs.declared.moves.Move.TheVariants.{GoesWrong, ReadsWord, ReadsOldValue, Marks, StoresAfterBarrier, StoresPlain}
use Rattle.moves.specs.declared.shared.Shared.{Shared}

-- the first cause by which the reference that a step uses is gone, if it is gone
abbrev pub IsTouch : Shared → WordValue → Option Cause → Type 0
IsTouch h used None = (slice_index h.colours used.cell ≢ 0) × (slice_index h.births used.cell ≡ used.birth)
IsTouch h used (Some (TouchBlue cell)) = (cell ≡ used.cell) × (slice_index h.colours used.cell ≡ 0)
IsTouch h used (Some (TouchBirth cell)) = (cell ≡ used.cell) × (slice_index h.colours used.cell ≢ 0) × (slice_index h.births used.cell ≢ used.birth)
IsTouch h used (Some Wrong) = ⊥

-- the first cause by which the move itself breaks a run, if it does
abbrev pub Breaks : Shared → Move → Option Cause → Type 0
Breaks h GoesWrong cause = cause ≡ Some Wrong
Breaks h (ReadsWord base word value) cause = IsTouch h base cause
Breaks h (ReadsOldValue base word value) cause = IsTouch h base cause
Breaks h (StoresAfterBarrier base word value) cause = IsTouch h base cause
Breaks h (StoresPlain base word value) cause = IsTouch h base cause
Breaks h (Marks r) cause = IsTouch h r cause
Breaks h made cause = cause ≡ None

-- a cause of the code, as one of a run
abbrev pub cause_in : Cause → broken.Cause
cause_in Wrong = broken.Wrong
cause_in (TouchBlue cell) = broken.TouchBlue cell
cause_in (TouchBirth cell) = broken.TouchBirth cell

-- the first cause by which a run is broken, if its last move went wrong or touched a cell that was gone
abbrev pub IsStepCause : (s : Setup) (m : Machine) (starts : ℕ → m.State) → List Happening → Option Cause → Type 0
IsStepCause s m starts run None = (WentWrong run → ⊥) × (TouchedGone s run → ⊥)
IsStepCause s m starts run (Some cause) = IsCause s m starts run (cause_in cause)
