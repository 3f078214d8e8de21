-- There is no reference before the place reached.
use Rattle.std.proofs.Common.{◌≡◌, ◌-◌, length}
use Rattle.trace_sweep.specs.Words.{place_from}
use Rattle.collector_places.proofs.places.first_reference.Given as goal

abbrev pub invariant-loop-at : goal.invariant-loop-at
invariant-loop-at l = place_from l.words l.at (length l.words - l.at) ≡ place_from l.words l.from (length l.words - l.from)

abbrev pub decreases-loop-at : goal.decreases-loop-at
decreases-loop-at l = length l.words - l.at
