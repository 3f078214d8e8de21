use Rattle.std.proofs.Common.{◌≡◌, take}
use Rattle.certificate.specs.TypedShapes.{pointers_among}
use Rattle.certificate.proofs.typed_shapes.pointers_among.Given as goal

abbrev pub invariant-loop-field : goal.invariant-loop-field
invariant-loop-field l = l.row ≡ pointers_among l.«module» (take l.field-index l.fields)
