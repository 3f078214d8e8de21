use Rattle.colours.specs.Steps.{EnterStage}
use Rattle.heap_table.proofs.heap.Heap.enter.Given as goal

abbrev pub ghosts-store_stage : goal.ghosts-store_stage
ghosts-store_stage a = record { step = EnterStage }
