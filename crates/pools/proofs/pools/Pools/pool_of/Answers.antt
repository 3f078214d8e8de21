use Rattle.std.proofs.Common.{◌-◌, arith, ap, sym, ◌∙◌}
use Rattle.pools.specs.Heap.{layout_at}
use Rattle.pools.specs.Ends.{ends_rise, pool_at}
use Rattle.pools.proofs.pools.Pools.pool_of.Goals as goal

pub count_up_to-requires : goal.count_up_to-requires
count_up_to-requires c = rw (c.as_slice.ensures, c.self.invariant.ends_are) (ends_rise 1 c.self.inside.counts)

pub overflow_cast-count_up_to : goal.overflow_cast-count_up_to
overflow_cast-count_up_to c =
    let place = pool_at _ _ c.args.cell c.count_up_to.result c.self.invariant c.requires.not_globals (rw c.self.view_is c.requires.is_cell) (rw c.as_slice.ensures at c.count_up_to.ensures.point) in
    omega (arith, place.0, place.1, c.self.invariant.few)

pub returns-clause-layout : goal.returns-clause-layout
returns-clause-layout c =
    let place = pool_at _ _ c.args.cell c.count_up_to.result c.self.invariant c.requires.not_globals (rw c.self.view_is c.requires.is_cell) (rw c.as_slice.ensures at c.count_up_to.ensures.point) in
    c.new.ensures ∙ place.0 ∙ ap (λ counts. layout_at counts (c.args.cell - 1)) c.self.view_is

pub returns-clause-is_layout : goal.returns-clause-is_layout
returns-clause-is_layout c =
    let place = pool_at _ _ c.args.cell c.count_up_to.result c.self.invariant c.requires.not_globals (rw c.self.view_is c.requires.is_cell) (rw c.as_slice.ensures at c.count_up_to.ensures.point) in
    rw (c.new.ensures, place.0, sym c.self.view_is) place.1
