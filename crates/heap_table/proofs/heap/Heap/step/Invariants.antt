use Rattle.colours.specs.Runs.{ByThread}
use Rattle.heap_table.proofs.heap.Heap.step.Given as goal

abbrev pub ghosts-perform : goal.ghosts-perform
ghosts-perform g a = record { event = λ n. ByThread a.about (g.M.Makes.step n) }
