use Rattle.heap_table.specs.Holders.{MayCall}
use Rattle.heap_table.specs.Sweepers.{IsSweeperOf}
use Rattle.heap_tests.proofs.cycles.answer_each.Given as goal

abbrev pub invariant-loop : goal.invariant-loop
invariant-loop l = MayCall l.heap l.me × IsSweeperOf l.heap l.sweeper
