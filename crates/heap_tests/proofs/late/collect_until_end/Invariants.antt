use Rattle.heap_table.specs.Holders.{MayCall}
use Rattle.heap_table.specs.Sweepers.{IsSweeperOf}
use Rattle.heap_tests.proofs.late.collect_until_end.Given as goal

abbrev pub invariant-loop-look : goal.invariant-loop-look
invariant-loop-look l = MayCall l.heap l.me × IsSweeperOf l.heap l.sweeper
