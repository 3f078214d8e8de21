-- What a move of a thread says in a record.
use Rattle.std.specs.Prelude.{ℕ, ◌≡◌, Option, Some, None, List, []}
use Rattle.colours.specs.Steps.{Step}
use Rattle.runs.specs.Machine.{WordValue}
use Rattle.runs.specs.Moves.{cells_of}
use Rattle.runs.specs.ModuleRuns.{Happening}
use Rattle.moves.specs.declared.moves.Move.{Move}
use Rattle.moves.specs.declared.moves.Move.TheVariants.{ReadsWord, ReadsOldValue, Marks, StoresAfterBarrier, StoresPlain, Claims, Answers}
use Rattle.record_text.specs.Records.{step_with, roots_left}
use Rattle.stepping.specs.Ends.{Tells}
use Rattle.stepping.specs.declared.happening.MadeStep.{MadeStep}
use Rattle.step_records.specs.declared.said.SaidMove.{SaidMove}
use Rattle.step_records.specs.declared.said.SaidMove.TheVariants as said

-- the roots that a move names, by a thread with these roots
abbrev pub roots_by : Move → (roots : List WordValue) → List ℕ
roots_by (Answers stage) roots = cells_of roots
roots_by move roots = []

-- the cell that its entry has
abbrev pub cell_of : Move → ℕ
cell_of (ReadsWord base word value) = base.cell
cell_of (ReadsOldValue base word value) = base.cell
cell_of (Marks r) = r.cell
cell_of (StoresAfterBarrier base word value) = base.cell
cell_of (StoresPlain base word value) = base.cell
cell_of (Claims r won) = r.cell
cell_of move = 0

-- what is said is the step of a thread that has named these roots, if it is one; no root is named for a later answer
abbrev pub IsSaidBy : Option Step → (roots : List ℕ) → SaidMove → Type 0
IsSaidBy step roots said.NoStep = (step ≡ None) × (roots ≡ [])
IsSaidBy step roots (said.Step s) = (step ≡ Some (step_with roots s)) × (roots_left s roots ≡ [])

-- what was made is what happens next, if anything does, where a thread that answers has these roots
abbrev pub TellsNext : (roots : List WordValue) → Option MadeStep → (next : Option Happening) → Type 0
TellsNext roots None next = next ≡ None
TellsNext roots (Some step) next = (happening : Happening) × (next ≡ Some happening) × Tells (λ t. roots) step.happening happening
