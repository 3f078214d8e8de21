use Rattle.std.proofs.Common.{◌∙◌, ℕ, List, Some, refl, subst}
use Rattle.std.proofs.lemmas.Result.{IfOk-weaker}
use Rattle.reports.specs.Report.{IsTold, yes}
use Rattle.reports.specs.Said.{OnOutput, OnError, accepted_told, accepted_not_told}
use Rattle.reports.proofs.trusts.report_accepted.Goals as goal

pub returns-in-Ok : goal.returns-in-Ok
returns-in-Ok c =
    let m = c.args.of_module.now in
    IfOk-weaker c.accepted-status.result _ _
    (λ status told. (OnOutput _, accepted_told, (subst (λ (trusts : List ℕ). IsTold (Some c.args.outputs.now.out.items) (Some c.accepted-status.new.out.items) status (yes m trusts)) (c.as_slice.ensures ∙ c.in-Ok.ensures) told, refl)))
    c.accepted-status.ensures

pub returns-in-Err : goal.returns-in-Err
returns-in-Err c = IfOk-weaker c.memory.result _ _ (λ status told. (OnError _, accepted_not_told, (refl, told))) c.memory.ensures
