use Rattle.heap_table.specs.Holders.{MayBegin}
use Rattle.heap_tests.proofs.late.begin_at_last.Given as goal

abbrev pub invariant-loop-try : goal.invariant-loop-try
invariant-loop-try l = MayBegin l.heap l.me
