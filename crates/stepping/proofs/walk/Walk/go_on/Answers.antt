-- What was stored, the roots of the thread, and then what these lead to.
use Rattle.std.proofs.Common.{length, sym, subst, arith}
use Rattle.pools.specs.Heap.{cells_in}
use Rattle.runs.specs.Moves.{null}
use Rattle.stepping.specs.declared.walk.Walk.{Walk}
use Rattle.stepping.specs.Walks.{IsShaped, IsLooked, IsSeen}
use Rattle.stepping.proofs.GoingOn.{gone_on-by, shaped-on, widens-on, stays-on, looked-on, roots-on}
use Rattle.stepping.proofs.walk.Walk.go_on.Goals as goal

pub look_from-requires-clause-shaped : goal.look_from-requires-clause-shaped
look_from-requires-clause-shaped c =
    let h = c.args.shared.now in
    let is = gone_on-by h c.args.roots.now c.args.stored c.args.self.now c.follow.new.self c.follow_all.new.self c.in_ok-follow.ensures c.in_ok-follow_all.ensures in
    subst (λ (w : Walk). IsShaped (cells_in c.args.schema.pools.now) w) (sym is) (shaped-on h c.args.roots.now c.args.stored c.args.self.now (cells_in c.args.schema.pools.now) c.requires.shaped)

pub look_from-requires-clause-few : goal.look_from-requires-clause-few
look_from-requires-clause-few c =
    let h = c.args.shared.now in
    let is = gone_on-by h c.args.roots.now c.args.stored c.args.self.now c.follow.new.self c.follow_all.new.self c.in_ok-follow.ensures c.in_ok-follow_all.ensures in
    let widens = widens-on h c.args.roots.now c.args.stored c.args.self.now in
    rw is (omega (arith, widens.wide, c.requires.few))

pub look_from-requires-clause-place : goal.look_from-requires-clause-place
look_from-requires-clause-place c =
    let h = c.args.shared.now in
    let is = gone_on-by h c.args.roots.now c.args.stored c.args.self.now c.follow.new.self c.follow_all.new.self c.in_ok-follow.ensures c.in_ok-follow_all.ensures in
    let widens = widens-on h c.args.roots.now c.args.stored c.args.self.now in
    rw is (omega (arith, widens.longer, c.len-place.ensures))

pub returns-clause-closed : goal.returns-clause-closed
returns-clause-closed c = λ s all fits near.
    let h = c.args.shared.now in
    let own = c.args.roots.now in
    let w = c.args.self.now in
    let is = gone_on-by h own c.args.stored w c.follow.new.self c.follow_all.new.self c.in_ok-follow.ensures c.in_ok-follow_all.ensures in
    let seen = c.in_ok-look_from.ensures.seen in
    record {
      looked = c.in_ok-look_from.ensures.looked s fits (subst (λ n. IsLooked s h c.follow_all.new.self n) (sym c.len-place.ensures) (subst (λ (v : Walk). IsLooked s h v (length w.order)) (sym is) (looked-on h own c.args.stored w s all near)));
      globals_seen = seen null (subst (λ (v : Walk). IsSeen h v null) (sym is) (stays-on h own c.args.stored w null near.globals_seen));
      roots_seen = λ r is_in n. seen r (subst (λ (v : Walk). IsSeen h v r) (sym is) (roots-on h own c.args.stored w s all near r is_in n));
    }
