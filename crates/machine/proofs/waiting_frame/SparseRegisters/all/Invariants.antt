use Rattle.std.proofs.Common.{◌≡◌, drop}
use Rattle.machine.specs.Waiting.{set_each}
use Rattle.machine.proofs.waiting_frame.SparseRegisters.all.Given as goal

abbrev pub invariant-loop-one : goal.invariant-loop-one
invariant-loop-one l = set_each (drop l.one-index l.one-items) l.registers ≡ l.self
