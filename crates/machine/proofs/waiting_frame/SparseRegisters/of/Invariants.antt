use Rattle.std.proofs.Common.{◌≡◌, length}
use Rattle.machine.specs.Waiting.{registers_with}
use Rattle.machine.proofs.Waiting.{front_of}
use Rattle.machine.proofs.waiting_frame.SparseRegisters.of.Given as goal

abbrev pub invariant-loop-register : goal.invariant-loop-register
invariant-loop-register l = registers_with (length l.registers) l.set ≡ front_of l.registers l.register
