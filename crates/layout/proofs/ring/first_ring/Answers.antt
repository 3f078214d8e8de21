use Rattle.std.proofs.Common.{ap, arith}
use Rattle.layout.specs.Tours.{State, seen}
use Rattle.layout.proofs.TourSteps.{starts, arrives}
use Rattle.layout.proofs.ring.first_ring.Goals as goal

pub loop-number-init : goal.loop-number-init
loop-number-init c = (
  starts c.args.«module».now c.count-count.result (seen c.in_ok-tour.tour) c.count-count.ensures.count c.in_ok-tour.ensures,
  ap (λ (s : State). s.path) c.in_ok-tour.ensures,
  λ p lt. absurd (omega (arith, lt)),
)

pub returns : goal.returns
returns c =
    let all = c.loop-number-test.false in
    let count = c.count-count.ensures.count in
    arrives c.args.«module».now (seen c.loop-number.tour) c.loop-number.invariant.0 c.loop-number.invariant.1 (λ p lt. c.loop-number.invariant.2 p (omega (arith, lt, all, count)))
