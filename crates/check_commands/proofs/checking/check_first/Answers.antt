use Rattle.std.proofs.Common.{subst}
use Rattle.std.proofs.lemmas.Result.{IfOk-weaker}
use Rattle.certs.specs.declared.certs.Certs.{Certs}
use Rattle.ir_ast.specs.declared.module.Module.{Module}
use Rattle.command_line.specs.declared.options.Refusals.TheVariants.{First}
use Rattle.reports.specs.Said.{OfAccepted, OfVerdict}
use Rattle.check_commands.specs.Accepted.{of_accepted}
use Rattle.check_commands.specs.Checks.{not_accepted}
use Rattle.check_commands.proofs.checking.check_first.Goals as goal

pub returns-in-Ok : goal.returns-in-Ok
returns-in-Ok g c =
    let m = c.args.certified.of_module in
    let certs = c.args.certified.certs in
    IfOk-weaker c.print_accepted.result _ _
    (λ status told. (told.0, of_accepted First m certs told.0 c.in-Ok.ensures.accepted (subst (λ (x : Module). OfAccepted x told.0) c.in-Ok.ensures.kept.0 told.1), told.2))
    c.print_accepted.ensures

pub returns-in-Err : goal.returns-in-Err
returns-in-Err g c =
    let answer = c.in-Err.answer in
    let back = c.in-Err.ensures.given_back in
    IfOk-weaker c.report_verdict-status.result _ _
    (λ status told. (told.0, not_accepted told.0 (subst (λ (m : Module). OfVerdict m c.args.certified.certs told.0) back.0 (subst (λ (certs : Certs). OfVerdict answer.of_module certs told.0) back.1 told.1)), told.2))
    c.report_verdict-status.ensures
