use Rattle.std.proofs.Common.{◌≡◌, Some, drop}
use Rattle.machine.specs.Elements.{offset_after}
use Rattle.machine.proofs.elements.offset_after.Given as goal

abbrev pub invariant-loop-index : goal.invariant-loop-index
invariant-loop-index l = offset_after l.program l.registers (Some (l.offset, l.written)) (drop l.index-index l.indices) ≡ offset_after l.program l.registers (Some (l.fn.offset, l.fn.written)) l.indices
