-- What is listed are cells of the heap.
use Rattle.std.proofs.Common.{◌<◌, sym, subst, ◌∙◌}
use Rattle.pools.specs.Heap.{cells, cells_in}
use Rattle.trace_sweep.specs.Collecting.{Collecting}
use Rattle.trace_sweep.specs.Below.{first-below}
use Rattle.trace_sweep.proofs.collector.Collector.next_cell.Goals as goal

pub returns-in-Some-clause-is_cell : goal.returns-in-Some-clause-is_cell
returns-in-Some-clause-is_cell c =
    subst (λ (d : Collecting). c.in-Some.cell < cells d.heap) c.self.view_is
    (first-below (cells_in c.self.inside.pools.now) c.self.inside.shades c.in-Some.cell c.self.invariant.listed (sym c.newest.ensures ∙ c.in-Some.is))
