use Rattle.std.proofs.Common.{◌≡◌, map, take}
use Rattle.types.specs.References.{is_opaque}
use Rattle.layout.proofs.pointers.opaque_among.Given as goal

abbrev pub invariant-loop-field : goal.invariant-loop-field
invariant-loop-field l = l.row ≡ map (is_opaque l.«module») (take l.field-index l.fields)
