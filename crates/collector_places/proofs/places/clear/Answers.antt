use Rattle.std.proofs.Common.{ℕ, ap, ◌∙◌, arith, length}
use Rattle.std.specs.Prelude.{replicate}
use Rattle.collector_places.proofs.WordPlaces.{all_zero}
use Rattle.collector_places.proofs.places.clear.Goals as goal

pub returns : goal.returns
returns c = all_zero c.loop-number.numbers (λ k lt. c.loop-number.invariant k (omega (arith, c.loop-number.auto.numbers, lt))) ∙ ap (λ (n : ℕ). replicate n 0) c.loop-number.auto.numbers
