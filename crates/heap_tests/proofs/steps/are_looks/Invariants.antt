use Rattle.heap_table.specs.Sweepers.{IsSweeperOf}
use Rattle.heap_tests.proofs.steps.are_looks.Given as goal

abbrev pub invariant-loop : goal.invariant-loop
invariant-loop l = IsSweeperOf l.heap l.sweeper
