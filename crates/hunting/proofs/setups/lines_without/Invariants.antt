-- the lines so far are of the other threads or of the collector, and have no more steps than those that the loop went over
use Rattle.std.proofs.Common.{◌<◌, ◌≤◌, ◌-◌, ℕ, take}
use Rattle.trace_text.specs.Traces.{step_sum}
use Rattle.hunting.specs.Parts.{AreOfActors}
use Rattle.hunting.proofs.setups.lines_without.Given as goal

abbrev pub invariant-loop-line : goal.invariant-loop-line
invariant-loop-line l = record {
  actors : (threads : ℕ) → l.thread < threads → AreOfActors threads (take l.line-index l.lines) → AreOfActors (threads - 1) l.fewer;
  sum : step_sum l.fewer ≤ step_sum (take l.line-index l.lines);
}
