-- The actors that are left are those of the trace.
use Rattle.std.proofs.Common.{length, sym, ap, subst, ◌∙◌}
use Rattle.moves.specs.Runs.{AreActors}
use Rattle.replay.specs.Lists.{actors_of}
use Rattle.trace_text.specs.declared.trace.Setup.{Setup}
use Rattle.step_log.specs.Upcoming.{actors_in}
use Rattle.step_log.proofs.Logged.{are_actors}
use Rattle.step_log.proofs.stretch.StepLog.new.Goals as goal

pub invariant_of-result : goal.invariant_of-result
invariant_of-result c =
    let setup = c.args.trace.now.setup in
    let found = are_actors (length setup.starts) c.args.trace.now.steps c.requires.actors in
    let left = subst (AreActors (length setup.starts)) (sym (c.new-2.ensures ∙ ap actors_of c.as_slice.ensures)) found in
    subst (λ (begun : Setup). AreActors (length begun.starts) (actors_in c.new-2.result)) (sym c.in_ok-recorder.ensures.ok.setup_is) left
