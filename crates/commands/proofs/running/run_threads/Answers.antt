use Rattle.std.proofs.Common.{refl}
use Rattle.std.proofs.lemmas.Result.{IfOk-weaker}
use Rattle.reports.specs.Said.{OnOutput, OnError}
use Rattle.reports.specs.TraceRuns.{ran, not_run}
use Rattle.commands.proofs.running.run_threads.Goals as goal

pub returns-in-Ok : goal.returns-in-Ok
returns-in-Ok g c =
    IfOk-weaker c.ran.result _ _
    (λ status told. (OnOutput _, ran c.in-Ok.report c.in-Ok.ensures.no_fault c.in-Ok.ensures.report, (told, refl)))
    c.ran.ensures

pub returns-in-Err : goal.returns-in-Err
returns-in-Err g c =
    IfOk-weaker c.no_threads.result _ _ (λ status told. (OnError _, not_run c.in-Err.fault c.in-Err.ensures.fault, (refl, told))) c.no_threads.ensures
