use Rattle.std.proofs.Common.{◌∙◌, refl}
use Rattle.serving.proofs.Roots.{root_fits, one_cell_more}
use Rattle.watched_serving.proofs.root_lists.fill.Goals as goal

pub cell_of-requires : goal.cell_of-requires
cell_of-requires g c = root_fits c.args.heap.now.setup c.args.heap.now.setup (g.R.Machine.roots c.args.machine.now) c.deref-root-items.result.now c.loop-root.root-index c.root-item.result refl (c.deref-root-items.ensures.value ∙ c.in_ok-roots.ensures)
    (g.met.R.Runner.keeps_kinds c.args.heap.now.setup c.args.machine.now c.requires.fits).roots_fit c.loop-root-test.true c.root-item.is

pub loop-root-preserved : goal.loop-root-preserved
loop-root-preserved g c = one_cell_more c.deref-root-items.result.now c.loop-root.root-index c.root-item.result c.cell_of.result _ _ c.loop-root.invariant c.loop-root-test.true c.root-item.is c.cell_of.ensures c.in_ok-push.ensures.items
