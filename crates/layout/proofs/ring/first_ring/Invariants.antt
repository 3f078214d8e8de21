use Rattle.std.proofs.Common.{◌≡◌, ◌<◌, ℕ, [], false}
use Rattle.layout.specs.Tours.{IsTour, seen, is_new}
use Rattle.layout.proofs.ring.first_ring.Given as goal

abbrev pub invariant-loop-number : goal.invariant-loop-number
invariant-loop-number l = IsTour l.«module» (seen l.tour) × (l.tour.path.items ≡ []) × ((p : ℕ) → p < l.number → is_new l.tour.places p ≡ false)
