use Rattle.std.proofs.Common.{refl, subst, sym}
use Rattle.std.proofs.lemmas.Result.{IfOk-weaker}
use Rattle.ir_ast.specs.declared.module.Module.{Module}
use Rattle.check_commands.specs.EditedFiles.{OfRechecked, rechecked}
use Rattle.reports.specs.Report.{of_layout_reason}
use Rattle.reports.specs.Said.{OnError}
use Rattle.check_commands.specs.Rechecks.{IsBegun}
use Rattle.certs.specs.Plain.{one_for_each}
use Rattle.check_commands.proofs.Edits.{unbegun}
use Rattle.check_commands.proofs.rechecking.recheck_certified.Goals as goal

pub new-requires : goal.new-requires
new-requires g c = one_for_each c.args.certified.of_module c.args.certified.certs.sections c.requires

pub returns-in-Ok : goal.returns-in-Ok
returns-in-Ok g c =
    let kept = c.in-Ok.ensures in
    let begun : IsBegun c.args.certified.of_module c.args.certified.certs c.in-Ok.session = record { of_module = kept.of_module; of_certs = kept.certs; none_checked = kept.rechecked } in
    IfOk-weaker c.edit_session-status.result _ _ (λ status told. (told.0, rechecked c.in-Ok.session told.0 begun told.1, told.2)) c.edit_session-status.ensures

pub returns-in-Err : goal.returns-in-Err
returns-in-Err g c =
    let answer = c.in-Err.answer in
    let m = c.args.certified.of_module in
    let certs = c.args.certified.certs in
    let edits = c.args.edits.now in
    let back = sym c.in-Err.ensures.given_back.0 in
    let said = subst (λ (given : Module). OfRechecked m certs edits (OnError (of_layout_reason given answer.verdict))) back (unbegun m certs edits answer.verdict c.in-Err.ensures.fault) in
    IfOk-weaker c.not_laid_out-status.result _ _ (λ status told. (OnError _, said, (refl, told))) c.not_laid_out-status.ensures
