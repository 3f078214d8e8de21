use Rattle.heap_table.proofs.Begins.{stores_done, may_finish}
use Rattle.heap_table.proofs.heap.Heap.finish.Goals as goal

pub store_stage-requires-clause-next : goal.store_stage-requires-clause-next
store_stage-requires-clause-next c = stores_done c.args.me.now.setup c.args.me.now.thread c.args.me.now.log (may_finish c.args.me.now.setup c.args.me.now.thread c.args.me.now.log c.requires.token.ready)
