-- A fault of the seed's start is one of the start that was given: drawn numbers change no function and no argument.
use Rattle.std.proofs.Common.{subst}
use Rattle.std.specs.Prelude.{◌&&◌}
use Rattle.std.proofs.lemmas.Result.{err_from_is_err_and}
use Rattle.program_runner.specs.Setups.{IsSetupFault}
use Rattle.trace_text.specs.declared.trace.Setup.{Setup}
use Rattle.replay.proofs.DrawnSetups.{fault_of_seed}
use Rattle.hunting.proofs.counting.report_of_seed.Goals as goal

pub returns-in_err-report-clause-fault : goal.returns-in_err-report-clause-fault
returns-in_err-report-clause-fault c =
    let program = c.args.program.now in
    let given = c.args.start.now.setup in
    let p = err_from_is_err_and c.from_residual-in_err-report.result c.from_residual-in_err-report.ensures.1 in
    let e = c.in_err-report.field-0.0 in
    rw (p.1, p.2) (λ other. fault_of_seed program c.args.seed given (c.args.sample.schedules.drawn_values && program.of_module.wide) e
    (subst (λ (setup : Setup). IsSetupFault program setup e) c.in_ok-trace.ensures.setup (c.in_err-report.ensures.fault other)))
