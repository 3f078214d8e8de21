use Rattle.std.proofs.Common.{◌≡◌, ℕ, false}
use Rattle.layout.specs.Tours.{IsTour, seen, is_new, steps_left}
use Rattle.layout.proofs.ring.Tour.settle.Given as goal

abbrev pub invariant-loop-place : goal.invariant-loop-place
invariant-loop-place l = IsTour l.«module» (seen l.self) × (is_new l.self.places l.fn.written ≡ false) × ((other : ℕ) → is_new l.fn.self.places other ≡ false → is_new l.self.places other ≡ false)

abbrev pub decreases-loop-place : goal.decreases-loop-place
decreases-loop-place l = steps_left (seen l.self)
