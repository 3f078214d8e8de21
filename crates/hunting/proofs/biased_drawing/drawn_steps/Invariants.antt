-- the lines so far, and the steps that are left
use Rattle.std.proofs.Common.{◌≡◌, ◌+◌}
use Rattle.trace_text.specs.Traces.{step_sum}
use Rattle.hunting.specs.Parts.{AreOfActors}
use Rattle.hunting.proofs.biased_drawing.drawn_steps.Given as goal

abbrev pub invariant-loop-left : goal.invariant-loop-left
invariant-loop-left l = record {
  actors : AreOfActors l.threads l.lines;
  sum : step_sum l.lines + l.left ≡ l.steps;
  setup : l.run.world.setup ≡ l.setup;
}

abbrev pub decreases-loop-left : goal.decreases-loop-left
decreases-loop-left l = l.left
