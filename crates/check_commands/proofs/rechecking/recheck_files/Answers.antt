use Rattle.std.proofs.Common.{refl}
use Rattle.std.proofs.lemmas.Result.{IfOk-weaker}
use Rattle.reports.specs.Said.{OnError, not_certified, of_certified}
use Rattle.check_commands.proofs.rechecking.recheck_files.Goals as goal

pub returns-in-Ok : goal.returns-in-Ok
returns-in-Ok g c =
    let certified = c.in-Ok.certified in
    IfOk-weaker c.recheck_edits.result _ _
    (λ status told. (told.0, of_certified certified.of_module certified.certs told.0 c.in-Ok.ensures.of_module c.in-Ok.ensures.certs told.1, told.2))
    c.recheck_edits.ensures

pub returns-in-Err : goal.returns-in-Err
returns-in-Err g c =
    IfOk-weaker c.unread.result _ _
    (λ status told. (OnError _, not_certified c.in-Err.fault c.in-Err.ensures.err, (refl, told)))
    c.unread.ensures
