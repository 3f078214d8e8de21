-- A fault of the seed's start is one of the start that was given: drawn numbers change no function and no argument.
use Rattle.std.proofs.Common.{◌≡◌, ◌∙◌, ap, subst}
use Rattle.std.specs.Prelude.{◌&&◌}
use Rattle.std.proofs.lemmas.Result.{IfErr-weaker}
use Rattle.program_runner.specs.Setups.{IsSetupFault}
use Rattle.trace_text.specs.declared.trace.Setup.{Setup}
use Rattle.replay.specs.DrawnValues.{setup_of_seed}
use Rattle.replay.proofs.DrawnSetups.{fault_of_seed}
use Rattle.hunting.proofs.counting.trace_of_seed.Goals as goal

pub returns-then-sample-clause-fault : goal.returns-then-sample-clause-fault
returns-then-sample-clause-fault c =
    let p = c.args.program.now in
    let drawn = c.args.sample.schedules.drawn_values in
    let begun = c.in_ok-begun.ensures.setup ∙ ap (λ (setup : Setup). setup_of_seed drawn p setup c.args.seed) c.in_ok-before.ensures.setup in
    IfErr-weaker c.biased_trace-trace.result _ _
    (λ e faulty other. fault_of_seed p c.args.seed c.args.start.now.setup (drawn && p.of_module.wide) e (subst (λ (setup : Setup). IsSetupFault p setup e) begun (faulty other)))
    c.biased_trace-trace.ensures.fault
