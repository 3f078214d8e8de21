use Rattle.colours.specs.Steps.{ReadPostedAgain}
use Rattle.heap_table.proofs.heap.Heap.look_again.Given as goal

abbrev pub ghosts-step : goal.ghosts-step
ghosts-step a = record { step = ReadPostedAgain }
