use Rattle.std.proofs.Common.{refl}
use Rattle.std.proofs.lemmas.Result.{IfOk-weaker}
use Rattle.reports.specs.Said.{OnError}
use Rattle.check_commands.specs.Lowering.{no_program}
use Rattle.check_commands.proofs.lower.lower_unchecked.Goals as goal

pub returns-in-Ok : goal.returns-in-Ok
returns-in-Ok c = c.lower_read-status.ensures

pub returns-in-Err : goal.returns-in-Err
returns-in-Err c =
    IfOk-weaker c.unread.result _ _ (λ status told. (OnError _, no_program c.in-Err.fault c.in-Err.ensures.err, (refl, told))) c.unread.ensures
