use Rattle.heap_table.proofs.Begins.{stores_done, may_leave}
use Rattle.heap_table.proofs.heap.Heap.leave.Goals as goal

pub store_stage-requires-clause-next : goal.store_stage-requires-clause-next
store_stage-requires-clause-next c = stores_done c.args.me.now.setup c.args.me.now.thread c.args.me.now.log (may_leave c.args.me.now.setup c.args.me.now.thread c.args.me.now.log c.requires.phase)
