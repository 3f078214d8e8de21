use Rattle.conform.specs.Checks.{AreThreadsAtStart}
use Rattle.conform.proofs.run_check.threads_of.Given as goal

abbrev pub invariant-loop-thread : goal.invariant-loop-thread
invariant-loop-thread l = AreThreadsAtStart l.plan l.thread l.threads.items
