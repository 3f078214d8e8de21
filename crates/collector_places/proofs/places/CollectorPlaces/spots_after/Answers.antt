use Rattle.std.proofs.Common.{List, get_or, ap, subst, ◌∙◌}
use Rattle.std.specs.Prelude.{slice_index}
use Rattle.lemmas.specs.Lists.{IsIn}
use Rattle.collector_places.specs.declared.spot.Spot.{Spot}
use Rattle.collector_places.specs.declared.spot.Spot.TheVariants.{Posting}
use Rattle.collector_places.specs.Nexts.{cell_looked}
use Rattle.collector_places.specs.Places.{Places}
use Rattle.collector_places.proofs.Spotted.{spots_next, got_in}
use Rattle.collector_places.proofs.places.CollectorPlaces.spots_after.Goals as goal

pub loop-spot-preserved : goal.loop-spot-preserved
loop-spot-preserved c = let v = c.args.self.now in
    spots_next v.heap v.posted (slice_index v.looks (cell_looked c.args.turn)) (slice_index v.shades (cell_looked c.args.turn)) c.args.turn c.as_slice-spot-items.result.now c.loop-spot.spot-index Posting c.loop-spot.spots c.add_after.new.spots c.loop-spot-test.true c.loop-spot.invariant c.in_ok-add_after.ensures

pub add_after-requires-clause-placed : goal.add_after-requires-clause-placed
add_after-requires-clause-placed c = let x = get_or c.as_slice-spot-items.result.now c.loop-spot.spot-index Posting in
    c.requires.placed x (subst (λ (l : List Spot). IsIn x l) (c.as_slice-spot-items.ensures ∙ ap (λ (p : Places). p.spots) c.self.view_is) (got_in c.as_slice-spot-items.result.now c.loop-spot.spot-index Posting c.loop-spot-test.true))
