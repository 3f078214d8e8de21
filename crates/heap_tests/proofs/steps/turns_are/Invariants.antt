use Rattle.heap_table.specs.Sweepers.{IsSweeperOf}
use Rattle.heap_tests.proofs.steps.turns_are.Given as goal

abbrev pub invariant-loop-turn : goal.invariant-loop-turn
invariant-loop-turn l = IsSweeperOf l.heap l.sweeper
