use Rattle.std.proofs.Common.{refl}
use Rattle.std.proofs.lemmas.Result.{IfOk-weaker}
use Rattle.reports.specs.Said.{OnError, not_certified, of_certified}
use Rattle.check_commands.proofs.lower.lower_checked.Goals as goal

pub returns-in-Ok : goal.returns-in-Ok
returns-in-Ok c =
    let certified = c.in-Ok.certified in
    IfOk-weaker c.lower_certified.result _ _
    (λ status told. (told.0, of_certified certified.of_module certified.certs told.0 c.in-Ok.ensures.of_module c.in-Ok.ensures.certs told.1, told.2))
    c.lower_certified.ensures

pub returns-in-Err : goal.returns-in-Err
returns-in-Err c =
    IfOk-weaker c.unread.result _ _ (λ status told. (OnError _, not_certified c.in-Err.fault c.in-Err.ensures.err, (refl, told))) c.unread.ensures
