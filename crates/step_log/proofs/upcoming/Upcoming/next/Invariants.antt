-- The actors that are left stay the same, line after line.
use Rattle.std.proofs.Common.{◌≡◌, length}
use Rattle.step_log.specs.Upcoming.{actors_in}
use Rattle.step_log.proofs.upcoming.Upcoming.next.Given as goal

abbrev pub invariant-loop-self : goal.invariant-loop-self
invariant-loop-self l = actors_in l.fn.self ≡ actors_in l.self

abbrev pub decreases-loop-self : goal.decreases-loop-self
decreases-loop-self l = length l.self.lines.now
