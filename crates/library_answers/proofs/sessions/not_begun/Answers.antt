use Rattle.std.proofs.Common.{◌≡◌, refl}
use Rattle.std.proofs.lemmas.Result.{IfOk-weaker}
use Rattle.reports.specs.Report.{of_layout_reason}
use Rattle.reports.specs.Said.{OnError}
use Rattle.reports.specs.declared.outputs.Outputs.{Outputs}
use Rattle.library_answers.proofs.Answered.{answered}
use Rattle.library_answers.proofs.Verdicts.{one_above, reason_status}
use Rattle.library_answers.proofs.sessions.not_begun.Goals as goal

pub returns : goal.returns
returns c =
    let refused = c.args.refused.now in
    let line = OnError (of_layout_reason refused.of_module refused.verdict) in
    let old = c.nothing-outputs.result in
    let new : Outputs = record { out = old.out; err = c.not_laid_out-printed.new.err } in
    one_above line _ _ c.answer_of.result (reason_status refused.of_module refused.verdict)
    (answered (λ said. said ≡ line) old new c.not_laid_out-printed.result _ _ c.answer_of.result c.nothing-outputs.ensures.out c.nothing-outputs.ensures.err
    (IfOk-weaker c.not_laid_out-printed.result _ _ (λ status told. (OnError _, refl, (refl, told))) c.not_laid_out-printed.ensures)
    c.answer_of.ensures.printed c.answer_of.ensures.failed)
