use Rattle.heap_table.proofs.Begins.{again_next}
use Rattle.heap_table.proofs.heap.Heap.look_again.Goals as goal

pub step-requires-clause-next : goal.step-requires-clause-next
step-requires-clause-next c = again_next _ _ _ c.requires.phase
