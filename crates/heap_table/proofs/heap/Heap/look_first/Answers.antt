use Rattle.heap_table.proofs.Begins.{first_next}
use Rattle.heap_table.proofs.Safepoints.{posted_low}
use Rattle.heap_table.proofs.heap.Heap.look_first.Goals as goal

pub step-requires-clause-next : goal.step-requires-clause-next
step-requires-clause-next c = first_next _ _ _ c.requires.token.absent

pub returns-clause-low : goal.returns-clause-low
returns-clause-low c = posted_low _ _ _ _ c.step.ensures.happens c.step.ensures.happens.is_run.run_of.1.2
