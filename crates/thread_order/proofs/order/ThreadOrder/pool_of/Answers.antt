use Rattle.std.proofs.Common.{◌-◌, ap, ◌∙◌}
use Rattle.pools.specs.Heap.{Setup, layout_at, layout_of}
use Rattle.thread_order.specs.Standings.{Standing}
use Rattle.thread_order.proofs.order.ThreadOrder.pool_of.Goals as goal

pub returns : goal.returns
unfolding layout_of
returns c = c.pool_of.ensures.layout ∙ ap (λ (s : Setup). layout_at s.pools (c.args.cell - 1)) (c.plan.view_is ∙ ap (λ (v : Standing). v.heap) c.self.view_is)
