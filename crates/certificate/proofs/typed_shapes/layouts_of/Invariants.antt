use Rattle.std.proofs.Common.{◌≡◌, map, take}
use Rattle.types.specs.References.{referenced_layout}
use Rattle.certificate.proofs.typed_shapes.layouts_of.Given as goal

abbrev pub invariant-loop-field : goal.invariant-loop-field
invariant-loop-field l = l.row ≡ map (referenced_layout l.«module») (take l.field-index l.fields)
