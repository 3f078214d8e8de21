use Rattle.heap_table.proofs.Safepoints.{posted_low}
use Rattle.heap_table.proofs.heap.Heap.look.Goals as goal

pub returns-clause-low : goal.returns-clause-low
returns-clause-low c = posted_low _ _ _ _ c.step.ensures.happens c.step.ensures.happens.is_run.run_of.1.2
