-- A setup with drawn numbers is one of the program.
use Rattle.std.proofs.Common.{◌∙◌, sym, subst, List}
use Rattle.trace_text.specs.Traces.{IsTraceOf}
use Rattle.trace_text.specs.declared.trace.Setup.{Setup}
use Rattle.trace_text.specs.declared.trace.Steps.{Steps}
use Rattle.replay.specs.DrawnValues.{setup_drawn}
use Rattle.replay.proofs.DrawnSetups.{draws_wide, is_trace_drawn}
use Rattle.replay.proofs.drawn_values.start_of_seed.Goals as goal

pub returns-in-Ok-clause-is_trace : goal.returns-in-Ok-clause-is_trace
returns-in-Ok-clause-is_trace c =
    let p = c.args.program.now in
    let wide = draws_wide c.args.drawn_values p (sym c.draws_values.ensures ∙ c.if-not-draws_values.false) in
    subst (λ (setup : Setup). IsTraceOf p (record { setup = setup; steps = c.new-steps.result })) (sym c.in-Ok.ensures)
    (subst (λ (steps : List Steps). IsTraceOf p (record { setup = setup_drawn c.args.seed c.args.start.setup; steps = steps })) (sym c.new-steps.ensures) (is_trace_drawn p c.args.seed c.args.start wide c.requires))
