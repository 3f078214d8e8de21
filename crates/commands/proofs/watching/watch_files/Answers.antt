use Rattle.std.proofs.Common.{refl}
use Rattle.std.proofs.lemmas.Result.{IfOk-weaker}
use Rattle.reports.specs.Said.{OnError}
use Rattle.reports.specs.TraceRuns.{not_traced, of_traced}
use Rattle.commands.proofs.watching.watch_files.Goals as goal

pub returns-in-Ok : goal.returns-in-Ok
returns-in-Ok g c =
    let traced = c.in-Ok.traced in
    IfOk-weaker c.watch_traced-status.result _ _
    (λ status told. (told.0, of_traced traced.program traced.trace told.0 c.in-Ok.ensures.program c.in-Ok.ensures.trace told.1, told.2))
    c.watch_traced-status.ensures

pub returns-in-Err : goal.returns-in-Err
returns-in-Err g c =
    IfOk-weaker c.unread.result _ _ (λ status told. (OnError _, not_traced c.in-Err.fault c.in-Err.ensures.err, (refl, told))) c.unread.ensures
