use Rattle.std.proofs.Common.{◌≡◌, map, take}
use Rattle.certificate.specs.TypedShapes.{typed_global}
use Rattle.certificate.proofs.typed_shapes.global_shapes.Given as goal

abbrev pub invariant-loop-sort : goal.invariant-loop-sort
invariant-loop-sort l = l.globals ≡ map (typed_global l.«module») (take l.sort-index l.sorts)
