use Rattle.std.proofs.Common.{refl}
use Rattle.std.proofs.lemmas.Result.{IfOk-weaker}
use Rattle.reports.specs.Said.{OnError}
use Rattle.check_commands.specs.Checks.{no_module, of_module}
use Rattle.check_commands.proofs.making.make_file.Goals as goal

pub returns-in-Ok : goal.returns-in-Ok
returns-in-Ok g c =
    IfOk-weaker c.make_of.result _ _ (λ status told. (told.0, of_module c.in-Ok.of_module told.0 c.in-Ok.ensures.ok told.1, told.2)) c.make_of.ensures

pub returns-in-Err : goal.returns-in-Err
returns-in-Err g c =
    IfOk-weaker c.unread.result _ _ (λ status told. (OnError _, no_module c.in-Err.fault c.in-Err.ensures.err, (refl, told))) c.unread.ensures
