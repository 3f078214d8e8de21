use Rattle.std.proofs.Common.{arith}
use Rattle.collector_places.proofs.Spotted.{none_taken, some_taken, taken_stands, looks_low, shades_low}
use Rattle.collector_places.proofs.places.CollectorPlaces.take.Goals as goal

pub returns-then-is_empty-clause-allowed : goal.returns-then-is_empty-clause-allowed
returns-then-is_empty-clause-allowed c = λ s log st n. none_taken s log c.args.self.now c.args.turn c.in_ok-spots.spots st n c.in_ok-spots.ensures (c.is_empty.ensures.0 c.if-is_empty.true)

pub go_on-requires-clause-looks : goal.go_on-requires-clause-looks
go_on-requires-clause-looks c = looks_low c.requires.0 c.requires.1 c.args.self.now c.requires.2

pub go_on-requires-clause-shades : goal.go_on-requires-clause-shades
go_on-requires-clause-shades c = shades_low c.requires.0 c.requires.1 c.args.self.now c.requires.2

pub returns-clause-allowed : goal.returns-clause-allowed
returns-clause-allowed c = λ s log st n. some_taken s log c.args.self.now c.args.turn c.in_ok-spots.spots st n c.in_ok-spots.ensures (λ e. absurd (cc (c.if-is_empty.false, c.is_empty.ensures.1 e)))

pub returns-clause-stands : goal.returns-clause-stands
returns-clause-stands c = λ s log st n is. taken_stands s log c.args.self.now _ c.args.turn c.in_ok-spots.spots st n c.in_ok-spots.ensures (λ e. absurd (cc (c.if-is_empty.false, c.is_empty.ensures.1 e))) c.go_on.ensures
