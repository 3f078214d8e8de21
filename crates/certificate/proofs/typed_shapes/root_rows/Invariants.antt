use Rattle.std.proofs.Common.{◌≡◌, map, take}
use Rattle.certificate.specs.TypedShapes.{typed_roots}
use Rattle.certificate.proofs.typed_shapes.root_rows.Given as goal

abbrev pub invariant-loop-sort : goal.invariant-loop-sort
invariant-loop-sort l = l.rows ≡ map (typed_roots l.«module» l.fn.roots) (take l.sort-index l.sorts)
