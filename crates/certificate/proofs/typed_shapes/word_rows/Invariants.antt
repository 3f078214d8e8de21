use Rattle.std.proofs.Common.{◌≡◌, map, take}
use Rattle.certificate.specs.TypedShapes.{typed_row}
use Rattle.certificate.proofs.typed_shapes.word_rows.Given as goal

abbrev pub invariant-loop-layout : goal.invariant-loop-layout
invariant-loop-layout l = l.words ≡ map (typed_row l.«module» l.rows) (take l.layout-index l.struct_of)
