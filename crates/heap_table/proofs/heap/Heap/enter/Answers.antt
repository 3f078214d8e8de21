use Rattle.heap_table.proofs.Begins.{stores_entered}
use Rattle.heap_table.proofs.heap.Heap.enter.Goals as goal

pub store_stage-requires-clause-next : goal.store_stage-requires-clause-next
store_stage-requires-clause-next c = stores_entered _ _ _ _ c.requires.phase
