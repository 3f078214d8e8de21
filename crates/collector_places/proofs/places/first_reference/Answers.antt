-- The loop passes words that hold no reference.
use Rattle.std.proofs.Common.{sym, ◌∙◌}
use Rattle.collector_places.proofs.WordPlaces.{place_from-on}
use Rattle.collector_places.proofs.places.first_reference.Goals as goal

pub loop-at-preserved : goal.loop-at-preserved
loop-at-preserved c = sym (place_from-on c.args.words.now c.loop-at.at c.loop-at-test.true (sym c.is_reference.ensures ∙ c.if-is_reference.false)) ∙ c.loop-at.invariant
