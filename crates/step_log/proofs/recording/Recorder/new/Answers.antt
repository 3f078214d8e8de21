-- Nothing is recorded before the first step.
use Rattle.std.proofs.Common.{[], sym, subst}
use Rattle.step_log.specs.Steps.{AreSteps, NoStep}
use Rattle.step_log.proofs.recording.Recorder.new.Goals as goal

pub returns-in-Ok-clause-ok : goal.returns-in-Ok-clause-ok
returns-in-Ok-clause-ok c = record {
  program = c.in_ok-world.ensures.ok.0;
  setup_is = c.in_ok-world.ensures.ok.1;
  afterwards = c.in_ok-world.ensures.ok.2;
  steps = subst (λ l. AreSteps c.args.program.now c.args.setup.now [] [] l) (sym c.new-steps.ensures) NoStep;
}
