-- The threads so far are those that were taken, before their first moves.
use Rattle.std.proofs.Common.{◌≡◌, map}
use Rattle.stepping.specs.Starts.{thread_state_at_start}
use Rattle.stepping.proofs.beginning.stands_at_start.Given as goal

abbrev pub invariant-loop-thread : goal.invariant-loop-thread
invariant-loop-thread g l = l.stands.items ≡ map (thread_state_at_start l.layouts) l.yielded
