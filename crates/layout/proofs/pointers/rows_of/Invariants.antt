use Rattle.std.proofs.Common.{◌≡◌, map, take}
use Rattle.layout.specs.PointerRows.{pointer_row}
use Rattle.layout.proofs.pointers.rows_of.Given as goal

abbrev pub invariant-loop-named : goal.invariant-loop-named
invariant-loop-named l = l.rows ≡ map (pointer_row l.«module» l.survey.marks l.survey.fields.items) (take l.named-index l.«module».structs)
