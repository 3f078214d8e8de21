use Rattle.std.proofs.Common.{◌≡◌, ◌++◌, take}
use Rattle.std.specs.Prelude.{map}
use Rattle.machine.specs.Machine.{slot_value}
use Rattle.machine.proofs.entered.Entered.add_roots.Given as goal

abbrev pub invariant-loop-slot : goal.invariant-loop-slot
invariant-loop-slot l = l.roots.items ≡ l.fn.roots.items ++ map (slot_value l.frame.slots) (take l.slot-index l.slot-items)
