use Rattle.std.proofs.Common.{subst}
use Rattle.std.proofs.lemmas.Result.{IfOk-weaker}
use Rattle.certs.specs.declared.certs.Certs.{Certs}
use Rattle.ir_ast.specs.declared.module.Module.{Module}
use Rattle.module_check.specs.Accepted.{IsProgramCertified}
use Rattle.reports.specs.TraceRuns.{OfTraceFile, no_program, of_program}
use Rattle.reports.specs.Said.{OfVerdict}
use Rattle.commands.proofs.running.run_certified.Goals as goal

pub returns-in-Ok : goal.returns-in-Ok
returns-in-Ok g c =
    let accepted = c.in-Ok.accepted in
    let kept = c.in-Ok.ensures.kept in
    IfOk-weaker c.run_accepted-status.result _ _
    (λ status told. (
      told.0,
      of_program accepted.program told.0 kept.0
          (subst (λ (certs : Certs). IsProgramCertified accepted.program certs.sections) kept.1 c.in-Ok.ensures.certified)
          (subst (λ (certs : Certs). OfTraceFile c.args.limits accepted.program certs.sections c.args.files.now.trace told.0) kept.1 told.1),
      told.2,
    ))
    c.run_accepted-status.ensures

pub returns-in-Err : goal.returns-in-Err
returns-in-Err g c =
    let answer = c.in-Err.answer in
    let back = c.in-Err.ensures.given_back in
    IfOk-weaker c.report_verdict-status.result _ _
    (λ status told. (told.0, no_program told.0 (subst (λ (m : Module). OfVerdict m c.args.certified.certs told.0) back.0 (subst (λ (certs : Certs). OfVerdict answer.of_module certs told.0) back.1 told.1)), told.2))
    c.report_verdict-status.ensures
