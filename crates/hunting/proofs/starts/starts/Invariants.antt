-- the threads so far begin at functions of the program, and are no more than were asked for
use Rattle.std.proofs.Common.{◌≤◌, length}
use Rattle.std.specs.List.{AllByRecursion}
use Rattle.trace_text.specs.Traces.{IsStartOf}
use Rattle.hunting.proofs.starts.starts.Given as goal

abbrev pub invariant-loop-thread : goal.invariant-loop-thread
invariant-loop-thread g l = record {
  starts : AllByRecursion (IsStartOf l.program) l.drawn;
  few : length l.drawn ≤ l._thread;
}
