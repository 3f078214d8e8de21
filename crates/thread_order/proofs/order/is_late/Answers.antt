use Rattle.std.proofs.Common.{arith}
use Rattle.std.proofs.lemmas.Grind.{common_steps}
use Rattle.pools.specs.Heap.{is_late}
use Rattle.thread_order.proofs.order.is_late.Goals as goal

pub returns : goal.returns
unfolding is_late
returns c = grind (arith, common_steps)
