use Rattle.std.proofs.Common.{◌≡◌, map, take}
use Rattle.certificate.specs.TypedShapes.{pointers_among}
use Rattle.certificate.proofs.typed_shapes.pointers_of.Given as goal

abbrev pub invariant-loop-fields : goal.invariant-loop-fields
invariant-loop-fields l = l.pointers ≡ map (pointers_among l.«module») (take l.fields-index l.rows)
