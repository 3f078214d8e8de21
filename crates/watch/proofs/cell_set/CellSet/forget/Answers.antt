use Rattle.std.proofs.Common.{rules, ◌≡◌, ◌≤◌, ◌∙◌, length, ap, arith}
use Rattle.std.proofs.lemmas.List.{with_items_is}
use Rattle.watch.proofs.Rounds.{emptied}
use Rattle.watch.specs.CellSets.{of_round}
use Rattle.watch.proofs.cell_set.CellSet.forget.Goals as goal

pub returns : goal.returns
returns c =
    let same : length c.loop-stamp.stamp-items ≡ length c.self.inside.stamps.items = c.loop-stamp.auto.stamp-items ∙ ap length c.deref_mut-stamp-items.ensures.value in
    let far : length c.loop-stamp.stamp-items ≤ c.loop-stamp.stamp-index = omega (arith, c.loop-stamp.auto.stamp-items, c.loop-stamp-test.false) in
    ap (of_round 1) (with_items_is c.self.inside.stamps c.loop-stamp.stamp-items (search rules))
    ∙ emptied c.self.inside.round 1 c.self.inside.stamps.items c.loop-stamp.stamp-items c.args.self.now c.self.view_is same
    (λ k d lt one. let zeroed = c.loop-stamp.invariant k d (omega (arith, lt, far)) in omega (arith, zeroed, one))
