use Rattle.std.proofs.Common.{subst}
use Rattle.std.proofs.lemmas.Result.{IfOk-weaker}
use Rattle.certs.specs.declared.certs.Certs.{Certs}
use Rattle.ir_ast.specs.declared.module.Module.{Module}
use Rattle.layout.specs.Layouts.{LaidOut}
use Rattle.module_check.specs.Accepted.{IsProgramCertified}
use Rattle.reports.specs.Said.{OfVerdict}
use Rattle.check_commands.specs.Lowering.{OfProgram, lowered, not_lowered}
use Rattle.check_commands.proofs.lower.lower_certified.Goals as goal

pub returns-in-Ok : goal.returns-in-Ok
returns-in-Ok c =
    let accepted = c.in-Ok.accepted in
    let kept = c.in-Ok.ensures.kept in
    IfOk-weaker c.lower_program-status.result _ _
    (λ status told. (
      told.0,
      lowered accepted.program told.0 kept.0
          (subst (λ (certs : Certs). IsProgramCertified accepted.program certs.sections) kept.1 c.in-Ok.ensures.certified)
          (subst (λ (p : LaidOut). OfProgram c.args.recorded p told.0) c.program.ensures.program told.1),
      told.2,
    ))
    c.lower_program-status.ensures

pub returns-in-Err : goal.returns-in-Err
returns-in-Err c =
    let answer = c.in-Err.answer in
    let back = c.in-Err.ensures.given_back in
    IfOk-weaker c.report_verdict-status.result _ _
    (λ status told. (told.0, not_lowered told.0 (subst (λ (m : Module). OfVerdict m c.args.certified.certs told.0) back.0 (subst (λ (certs : Certs). OfVerdict answer.of_module certs told.0) back.1 told.1)), told.2))
    c.report_verdict-status.ensures
