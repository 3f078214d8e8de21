use Rattle.colours.specs.Steps.{ReadPostedFirst}
use Rattle.heap_table.proofs.heap.Heap.look_first.Given as goal

abbrev pub ghosts-step : goal.ghosts-step
ghosts-step a = record { step = ReadPostedFirst }
