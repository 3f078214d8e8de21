use Rattle.heap_tests.proofs.HeapTokens.{still_of}
use Rattle.heap_tests.proofs.steps.finish.Goals as goal

pub returns : goal.returns
returns c = still_of _ _ _ _ c.requires.of c.finish.ensures.log
