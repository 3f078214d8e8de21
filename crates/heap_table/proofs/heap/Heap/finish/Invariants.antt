use Rattle.std.proofs.Common.{[]}
use Rattle.colours.specs.Steps.{StoreStage}
use Rattle.heap_table.proofs.heap.Heap.finish.Given as goal

abbrev pub ghosts-store_stage : goal.ghosts-store_stage
ghosts-store_stage a = record { step = λ n. StoreStage n [] }
