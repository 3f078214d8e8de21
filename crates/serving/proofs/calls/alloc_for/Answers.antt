use Rattle.std.proofs.Common.{slice_index, refl, sym, ap, ◌∙◌}
use Rattle.pools.specs.Heap.{Setup}
use Rattle.runs.specs.Machine.{machine_of}
use Rattle.serving.proofs.AllocServed.{alloc_served, no_cell}
use Rattle.serving.proofs.calls.alloc_for.Goals as goal

pub returns-then-count-eq0 : goal.returns-then-count-eq0
returns-then-count-eq0 g c = alloc_served (machine_of g.R.Machine.action g.R.Machine.after_answer g.R.Machine.roots) _ _ _ c.requires.may.ready _ 0 0 _ c.requires.asked refl refl c.requires.may.ready
    (no_cell c.args.me.now.setup c.args.layout c.args.me.now.log (ap (λ (s : Setup). slice_index s.pools c.args.layout) c.requires.may.ready.of.setup ∙ (sym c.count.ensures ∙ c.if-count-eq0.true)))

pub returns : goal.returns
returns g c = alloc_served (machine_of g.R.Machine.action g.R.Machine.after_answer g.R.Machine.roots) _ _ _ c.requires.may.ready _ _ _ _ c.requires.asked c.from.ensures c.alloc-cell.ensures.token.0 c.alloc-cell.ensures.token.1 c.alloc-cell.ensures.log
