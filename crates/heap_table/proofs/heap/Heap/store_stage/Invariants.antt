use Rattle.colours.specs.Runs.{ByThread}
use Rattle.heap_table.proofs.heap.Heap.store_stage.Given as goal

abbrev pub ghosts-perform : goal.ghosts-perform
ghosts-perform g a = record { event = λ _. ByThread a.about.0 (g.M.Makes.step a.about.1) }
