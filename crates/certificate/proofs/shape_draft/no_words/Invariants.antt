use Rattle.std.proofs.Common.{◌≡◌, map, take}
use Rattle.certificate.specs.ShapeDrafts.{row_of}
use Rattle.certificate.proofs.shape_draft.no_words.Given as goal

abbrev pub invariant-loop-layout : goal.invariant-loop-layout
invariant-loop-layout l = l.rows ≡ map (row_of l.pointers) (take l.layout-index l.struct_of)
