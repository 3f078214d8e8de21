use Rattle.heap_table.specs.Holders.{MayCall}
use Rattle.heap_table.specs.Sweepers.{IsSweeperOf}
use Rattle.heap_tests.proofs.cycles.answered_turns_are.Given as goal

abbrev pub invariant-loop-turn : goal.invariant-loop-turn
invariant-loop-turn l = MayCall l.heap l.me × IsSweeperOf l.heap l.sweeper
