use Rattle.std.proofs.Common.{◌≡◌, ◌++◌, take}
use Rattle.std.specs.List.{flat_map}
use Rattle.certificate.specs.ShapesPrint.{roots_text}
use Rattle.certificate.proofs.print_shapes.put_roots.Given as goal

abbrev pub invariant-loop-function : goal.invariant-loop-function
invariant-loop-function l = l.out.items ≡ l.fn.out.items ++ flat_map (roots_text l.«module» l.shapes) (take l.function-index l.functions)
