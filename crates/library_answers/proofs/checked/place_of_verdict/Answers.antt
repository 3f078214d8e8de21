use Rattle.std.proofs.Common.{subst}
use Rattle.std.proofs.lemmas.Result.{IfOk-weaker}
use Rattle.module_check.specs.Accepted.{IsVerdictOf, shaped}
use Rattle.library_answers.proofs.checked.place_of_verdict.Goals as goal

pub returns-in-Refused : goal.returns-in-Refused
returns-in-Refused c =
    let answer = c.args.answer.now in
    let first = subst (IsVerdictOf (shaped answer.of_module answer.certs) answer.certs.sections) c.in-Refused.is c.requires in
    IfOk-weaker c.place_of_refusal.result _ _ (λ place is. λ other. (c.in-Refused.refusal, first, is)) c.place_of_refusal.ensures

pub returns-in-Layout : goal.returns-in-Layout
returns-in-Layout c = λ other. absurd (other c.place_of_layouts.ensures)

pub returns-in-Memory : goal.returns-in-Memory
returns-in-Memory c = λ other. absurd (other c.nowhere.ensures.no_instruction)
