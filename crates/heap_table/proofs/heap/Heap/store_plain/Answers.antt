use Rattle.heap_table.proofs.Stores.{plain_next}
use Rattle.heap_table.proofs.heap.Heap.store_plain.Goals as goal

pub step-requires-clause-next : goal.step-requires-clause-next
step-requires-clause-next c = plain_next _ _ _ _ _ _ c.requires.token.ready c.requires.cell c.requires.fresh c.requires.value
