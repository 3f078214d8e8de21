use Rattle.std.proofs.Common.{◌≡◌}
use Rattle.machine.specs.Jumps.{put_each}
use Rattle.machine.proofs.frame.put_values.Given as goal

abbrev pub invariant-loop-phi : goal.invariant-loop-phi
invariant-loop-phi l = put_each l.phi-iterator.a.rest.now l.phi-iterator.b.rest.now l.registers ≡ put_each l.fn.phis l.fn.values l.fn.registers
