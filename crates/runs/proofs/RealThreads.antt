-- What a thread promises, over the real heap: a log whose answers are possible, and a next move that the machine asks for, obey the heap's discipline.
use Rattle.pools.specs.Heap.{Setup}
use Rattle.runs.specs.Machine.{Machine}
use Rattle.runs.specs.RealThreads.{CarefulMeetsConditions}
use Rattle.runs.specs.Shares.{disciplined, possible_share}

-- each call that a machine asks for meets the heap's conditions
pub meets_conditions : (s : Setup) (m : Machine) → CarefulMeetsConditions s m
meets_conditions s m t start careful share move h p a = disciplined s share move (careful.moves share move h (possible_share s share p) a)
