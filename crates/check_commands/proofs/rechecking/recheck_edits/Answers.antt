use Rattle.std.proofs.Common.{List, refl, subst}
use Rattle.std.proofs.lemmas.Result.{IfOk-weaker}
use Rattle.recheck.specs.declared.edit.Edit.{Edit}
use Rattle.check_commands.specs.EditedFiles.{OfRechecked, no_edits, of_edits}
use Rattle.reports.specs.Said.{OnError}
use Rattle.check_commands.proofs.rechecking.recheck_edits.Goals as goal

pub returns-in-Ok : goal.returns-in-Ok
returns-in-Ok g c =
    let certified = c.args.certified in
    IfOk-weaker c.recheck_certified-status.result _ _
    (λ status told. (
      told.0,
      of_edits c.in-Ok.edits told.0 c.in-Ok.ensures.ok (subst (λ (edits : List Edit). OfRechecked certified.of_module certified.certs edits told.0) c.as_slice.ensures told.1),
      told.2,
    ))
    c.recheck_certified-status.ensures

pub returns-in-Err : goal.returns-in-Err
returns-in-Err g c =
    IfOk-weaker c.unread.result _ _
    (λ status told. (OnError _, no_edits c.in-Err.fault c.in-Err.ensures.err, (refl, told)))
    c.unread.ensures
