use Rattle.std.proofs.Common.{◌≡◌, ◌++◌, drop}
use Rattle.certificate.specs.ShapesPrint.{slots_text}
use Rattle.certificate.proofs.print_shapes.put_slots.Given as goal

abbrev pub invariant-loop-slot : goal.invariant-loop-slot
invariant-loop-slot l = l.fn.out.items ++ slots_text l.«module» l.shapes l.function 0 l.roots ≡ l.out.items ++ slots_text l.«module» l.shapes l.function l.slot (drop l.slot l.roots)
