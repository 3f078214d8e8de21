use Rattle.heap_table.proofs.Begins.{stores_answer}
use Rattle.heap_table.proofs.heap.Heap.answer.Goals as goal

pub store_stage-requires-clause-next : goal.store_stage-requires-clause-next
store_stage-requires-clause-next c = stores_answer _ _ _ _ _ c.requires.may c.requires.roots
