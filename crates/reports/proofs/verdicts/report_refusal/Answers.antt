use Rattle.std.proofs.Common.{Some, refl, subst, ◌∙◌}
use Rattle.std.proofs.lemmas.Result.{IfOk-weaker}
use Rattle.reports.specs.Report.{IsTold, no}
use Rattle.reports.specs.Said.{OnOutput, OnError, refused, not_checked}
use Rattle.reports.proofs.verdicts.report_refusal.Goals as goal

pub returns-in-Ok : goal.returns-in-Ok
returns-in-Ok c =
    let answer = c.args.answer.now in
    let refusal = c.args.refusal.now in
    IfOk-weaker c.refused.result _ _
    (λ status told. (OnOutput _, refused refusal c.requires, (subst (λ line. IsTold (Some c.args.outputs.now.out.items) (Some c.refused.new.out.items) status (no answer.of_module line refusal)) (c.as_slice.ensures.value ∙ c.in-Ok.ensures) told, refl)))
    c.refused.ensures

pub returns-in-Err : goal.returns-in-Err
returns-in-Err c = IfOk-weaker c.memory.result _ _ (λ status told. (OnError _, not_checked, (refl, told))) c.memory.ensures
