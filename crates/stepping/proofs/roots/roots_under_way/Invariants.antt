-- The roots of the threads so far.
use Rattle.std.proofs.Common.{◌≡◌, take}
use Rattle.stepping.specs.Roots.{roots_of}
use Rattle.stepping.proofs.roots.roots_under_way.Given as goal

abbrev pub invariant-loop-thread_state : goal.invariant-loop-thread_state
invariant-loop-thread_state g l = l.found.items ≡ roots_of g.M.Machine.roots (take l.thread_state-index l.threads)
