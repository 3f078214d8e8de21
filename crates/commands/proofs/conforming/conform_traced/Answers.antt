use Rattle.std.proofs.Common.{Some, refl, subst}
use Rattle.std.proofs.lemmas.Result.{IfOk-weaker}
use Rattle.reports.specs.Report.{IsTold, no_file}
use Rattle.reports.specs.Said.{OnError, OnOutput}
use Rattle.commands.specs.Conforming.{judged, no_record, not_begun}
use Rattle.commands.proofs.conforming.conform_traced.Goals as goal

pub returns-in_default : goal.returns-in_default
returns-in_default c =
    IfOk-weaker c.unread.result _ _
    (λ status told. (
      OnError _,
      no_record c.in_default.ensures.none,
      (refl, subst (λ path. IsTold (Some c.args.outputs.now.err.items) (Some c.unread.new.err.items) status (no_file path)) c.path_of.ensures told),
    ))
    c.unread.ensures

pub returns-in-Ok : goal.returns-in-Ok
returns-in-Ok c =
    IfOk-weaker c.judged.result _ _
    (λ status told. (OnOutput _, judged _ c.in-Ok.verdict c.in-Some.ensures.some c.in-Ok.ensures.no_fault c.in-Ok.ensures.verdict, (told, refl)))
    c.judged.ensures

pub returns-in-Err : goal.returns-in-Err
returns-in-Err c =
    IfOk-weaker c.no_threads.result _ _ (λ status told. (OnError _, not_begun c.in-Err.fault c.in-Err.ensures.fault, (refl, told))) c.no_threads.ensures
