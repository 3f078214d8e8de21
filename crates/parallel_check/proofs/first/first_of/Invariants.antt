use Rattle.std.proofs.Common.{◌≡◌, None, fold}
use Rattle.parallel_check.specs.Shares.{earlier}
use Rattle.parallel_check.proofs.first.first_of.Given as goal

abbrev pub invariant-loop-fault : goal.invariant-loop-fault
invariant-loop-fault l = fold earlier l.first l.fault-iterator.rest.items ≡ fold earlier None l.fn.faults.items
