use Rattle.std.proofs.Common.{◌≡◌, ◌++◌, take}
use Rattle.std.specs.List.{flat_map}
use Rattle.certificate.specs.ShapesPrint.{global_text_if}
use Rattle.certificate.proofs.print_shapes.put_globals.Given as goal

abbrev pub invariant-loop-global : goal.invariant-loop-global
invariant-loop-global l = l.out.items ≡ l.fn.out.items ++ flat_map (global_text_if l.«module» l.shapes) (take l.global-index l.globals)
