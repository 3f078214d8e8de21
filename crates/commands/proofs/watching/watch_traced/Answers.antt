use Rattle.std.proofs.Common.{Some, refl, subst}
use Rattle.std.proofs.lemmas.Result.{IfOk-weaker}
use Rattle.ir_ast.specs.declared.module.Module.{Module}
use Rattle.reports.specs.Report.{IsTold}
use Rattle.reports.specs.Said.{OnOutput, OnError}
use Rattle.commands.specs.Watching.{of_watch, watched, not_begun}
use Rattle.commands.proofs.watching.watch_traced.Goals as goal

pub returns-in-Ok : goal.returns-in-Ok
returns-in-Ok g c =
    IfOk-weaker c.report_watched-status.result _ _
    (λ status told. (
      OnOutput _,
      watched c.in-Ok.report c.in-Ok.ensures.no_fault c.in-Ok.ensures.report,
      (subst (λ (m : Module). IsTold (Some c.args.outputs.now.out.items) (Some c.report_watched-status.new.out.items) status (of_watch m c.in-Ok.report)) c.module.ensures.of_module told, refl),
    ))
    c.report_watched-status.ensures

pub returns-in-Err : goal.returns-in-Err
returns-in-Err g c =
    IfOk-weaker c.no_threads.result _ _ (λ status told. (OnError _, not_begun c.in-Err.fault c.in-Err.ensures.fault, (refl, told))) c.no_threads.ensures
