use Rattle.std.proofs.Common.{refl, subst}
use Rattle.std.proofs.lemmas.Result.{IfOk-weaker}
use Rattle.module_check.specs.Accepted.{IsVerdictOf, shaped}
use Rattle.reports.specs.Said.{OnError, not_laid_out, not_checked}
use Rattle.reports.proofs.verdicts.report_verdict.Goals as goal

pub returns-in-Layout : goal.returns-in-Layout
returns-in-Layout c =
    let answer = c.args.answer.now in
    IfOk-weaker c.no_layouts.result _ _
    (λ status told. (OnError _, not_laid_out c.in-Layout.fault (subst (IsVerdictOf (shaped answer.of_module answer.certs) answer.certs.sections) c.in-Layout.is c.requires), (refl, told)))
    c.no_layouts.ensures

pub returns-in-Memory : goal.returns-in-Memory
returns-in-Memory c = IfOk-weaker c.memory.result _ _ (λ status told. (OnError _, not_checked, (refl, told))) c.memory.ensures
