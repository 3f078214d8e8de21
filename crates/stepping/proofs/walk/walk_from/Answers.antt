-- The globals, the roots and the words of each cell that is met, one after the other.
use Rattle.std.proofs.Common.{ℕ, sym, ap, subst, ◌∙◌, arith}
use Rattle.pools.specs.Heap.{cells_in}
use Rattle.runs.specs.Moves.{null}
use Rattle.stepping.specs.declared.walk.Walk.{Walk}
use Rattle.stepping.specs.Walks.{begun, IsShaped, IsLooked, IsSeen, IsSound}
use Rattle.stepping.proofs.Schemas.{heap_with, cells-of_schema}
use Rattle.stepping.proofs.Wholes.{rooted-by, shaped-rooted, sound-rooted, looked-rooted, globals-seen, roots-seen}
use Rattle.stepping.proofs.walk.walk_from.Goals as goal

pub look_from-requires-clause-shaped : goal.look_from-requires-clause-shaped
look_from-requires-clause-shaped c =
    let s = heap_with c.args.schema in
    let cells = cells_in c.args.schema.pools.now in
    let is = rooted-by s c.args.shared.now c.args.roots.now cells c.in_ok-walk.walk c.meet.new.self c.follow_all.new.self (c.in_ok-walk.ensures ∙ ap begun c.cells.ensures.cells) c.in_ok-meet.ensures c.in_ok-follow_all.ensures in
    subst (λ (w : Walk). IsShaped cells w) (sym is) (shaped-rooted s c.args.shared.now c.args.roots.now cells)

pub look_from-requires-clause-few : goal.look_from-requires-clause-few
look_from-requires-clause-few c =
    let s = heap_with c.args.schema in
    let cells = cells_in c.args.schema.pools.now in
    let is = rooted-by s c.args.shared.now c.args.roots.now cells c.in_ok-walk.walk c.meet.new.self c.follow_all.new.self (c.in_ok-walk.ensures ∙ ap begun c.cells.ensures.cells) c.in_ok-meet.ensures c.in_ok-follow_all.ensures in
    let shaped = subst (λ (w : Walk). IsShaped cells w) (sym is) (shaped-rooted s c.args.shared.now c.args.roots.now cells) in
    omega (arith, shaped.wide, c.cells.ensures.limit)

pub returns-clause-whole : goal.returns-clause-whole
returns-clause-whole c = λ s fits.
    let h = c.args.shared.now in
    let roots = c.args.roots.now in
    let cells = cells_in c.args.schema.pools.now in
    let w = c.follow_all.new.self in
    let is = rooted-by s h roots cells c.in_ok-walk.walk c.meet.new.self w (c.in_ok-walk.ensures ∙ ap begun c.cells.ensures.cells) c.in_ok-meet.ensures c.in_ok-follow_all.ensures in
    let made = c.in_ok-look_from.ensures in (
      subst (λ (count : ℕ). IsShaped count c.look_from.new.self) (cells-of_schema s c.args.schema fits) made.shaped,
      record {
        sound = made.sound s roots fits (subst (λ (v : Walk). IsSound s h roots v) (sym is) (sound-rooted s h roots cells));
        closed = record {
          looked = made.looked s fits (subst (λ (v : Walk). IsLooked s h v 0) (sym is) (looked-rooted s h roots cells));
          globals_seen = made.seen null (subst (λ (v : Walk). IsSeen h v null) (sym is) (globals-seen s h roots cells));
          roots_seen = λ r is_in n. made.seen r (subst (λ (v : Walk). IsSeen h v r) (sym c.in_ok-follow_all.ensures) (roots-seen s h roots c.meet.new.self r is_in n));
        };
      },
    )
