-- A setup with drawn numbers is one of the program, and its faults are those of the given one.
use Rattle.std.proofs.Common.{◌∙◌, sym, subst}
use Rattle.std.proofs.lemmas.Result.{IfErr-weaker}
use Rattle.program_runner.specs.Setups.{IsSetupOf, IsSetupFault}
use Rattle.trace_text.specs.declared.trace.Setup.{Setup}
use Rattle.replay.proofs.DrawnSetups.{draws_wide, fault_drawn, is_setup_drawn}
use Rattle.replay.proofs.soaking.end_of_seed.Goals as goal

pub end_from-end-requires : goal.end_from-end-requires
end_from-end-requires c =
    let p = c.args.program.now in
    let wide = draws_wide c.args.drawn_values p (sym c.draws_values.ensures ∙ c.if-not-draws_values.false) in
    subst (λ (setup : Setup). IsSetupOf p setup) (sym c.in_ok-drawn.ensures) (is_setup_drawn p c.args.seed c.args.setup.now wide c.requires)

pub returns-clause-fault : goal.returns-clause-fault
returns-clause-fault c =
    let p = c.args.program.now in
    let setup = c.args.setup.now in
    IfErr-weaker c.end_from-end.result _ _
    (λ e faulty other. fault_drawn p c.args.seed setup e (subst (λ (drawn : Setup). IsSetupFault p drawn e) c.in_ok-drawn.ensures (faulty other)))
    c.end_from-end.ensures.fault
