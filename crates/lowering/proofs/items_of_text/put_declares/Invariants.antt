use Rattle.std.proofs.Common.{◌≡◌, ◌++◌, take}
use Rattle.std.specs.List.{flat_map}
use Rattle.lowering.specs.Items.{declared_line}
use Rattle.lowering.proofs.items_of_text.put_declares.Given as goal

abbrev pub invariant-loop-declared : goal.invariant-loop-declared
invariant-loop-declared l = l.out.items ≡ l.fn.out.items ++ flat_map (declared_line l.«module») (take l.declared-index l.declares)
