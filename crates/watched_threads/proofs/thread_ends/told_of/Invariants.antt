use Rattle.std.proofs.Common.{◌≡◌, length}
use Rattle.watched_threads.specs.Ends.{EndedBefore}
use Rattle.watched_threads.proofs.thread_ends.told_of.Given as goal

-- each thread that the loop went over broke nothing, and this is told of it
abbrev pub invariant-loop-thread : goal.invariant-loop-thread
invariant-loop-thread l = (length l.ends.items ≡ l.thread) × EndedBefore l.jobs l.ends.items l.thread
