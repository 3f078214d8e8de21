use Rattle.std.proofs.Common.{ℕ, ap, ◌∙◌}
use Rattle.std.specs.Prelude.{slice_index}
use Rattle.std.proofs.lemmas.Option.{unwrap_or-slice_get}
use Rattle.pools.specs.Heap.{Setup}
use Rattle.thread_order.specs.Standings.{Standing}
use Rattle.thread_order.proofs.order.ThreadOrder.pool_size.Goals as goal

pub returns : goal.returns
returns c = c.count.ensures ∙ (unwrap_or-slice_get c.plan.inside.pools.now c.pool_of.result 0 ∙ (ap (λ (s : Setup). slice_index s.pools c.pool_of.result) (c.plan.view_is ∙ ap (λ (v : Standing). v.heap) c.self.view_is) ∙ ap (λ (l : ℕ). slice_index c.args.self.now.heap.pools l) c.pool_of.ensures))
