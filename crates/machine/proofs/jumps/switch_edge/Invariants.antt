use Rattle.std.proofs.Common.{◌≡◌, drop}
use Rattle.machine.specs.Jumps.{switch_edge}
use Rattle.machine.proofs.jumps.switch_edge.Given as goal

abbrev pub invariant-loop-case : goal.invariant-loop-case
invariant-loop-case l = switch_edge l.of_module l.written l.number l.otherwise (drop l.case-index l.cases) ≡ switch_edge l.of_module l.written l.number l.otherwise l.cases
