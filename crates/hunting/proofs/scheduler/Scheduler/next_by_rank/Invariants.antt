-- an actor so far
use Rattle.std.proofs.Common.{◌≤◌}
use Rattle.hunting.proofs.scheduler.Scheduler.next_by_rank.Given as goal

abbrev pub invariant-loop-actor : goal.invariant-loop-actor
invariant-loop-actor l = l.highest ≤ l.last
