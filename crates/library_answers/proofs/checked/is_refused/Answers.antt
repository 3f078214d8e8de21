use Rattle.library_answers.proofs.Answered.{answered, placed}
use Rattle.library_answers.proofs.Verdicts.{status_above, verdict_status}
use Rattle.std.proofs.Common.{◌<◌, arith, inr, subst, sym, ℕ}
use Rattle.reports.specs.Said.{OfVerdict}
use Rattle.library_answers.proofs.checked.is_refused.Goals as goal

pub returns-in-Ok-clause-said : goal.returns-in-Ok-clause-said
returns-in-Ok-clause-said c =
    let m = c.args.answer.now.of_module in
    answered (OfVerdict m c.args.answer.now.certs) c.nothing-outputs.result c.report_verdict-printed.new.outputs c.report_verdict-printed.result _ _ c.answer_of.result
    c.nothing-outputs.ensures.out c.nothing-outputs.ensures.err c.report_verdict-printed.ensures c.answer_of.ensures.printed c.answer_of.ensures.failed

pub returns-in-Ok-clause-no : goal.returns-in-Ok-clause-no
returns-in-Ok-clause-no c =
    let m = c.args.answer.now.of_module in
    let certs = c.args.answer.now.certs in
    let below : 0 < 3 = omega arith in
    status_above (OfVerdict m certs) 0 _ _ c.answer_of.result below (λ said is. verdict_status m certs said is) (returns-in-Ok-clause-said c)

pub returns-in-Ok-clause-place : goal.returns-in-Ok-clause-place
returns-in-Ok-clause-place c = placed c.args.answer.now.of_module c.args.answer.now.certs _ _ c.in-Ok.ensures c.answer_of.ensures.place

pub returns-in-Err-clause-said : goal.returns-in-Err-clause-said
returns-in-Err-clause-said c = inr c.no_memory.ensures.memory

pub returns-in-Err-clause-no : goal.returns-in-Err-clause-no
returns-in-Err-clause-no c = let below : 0 < 3 = omega arith in subst (λ (s : ℕ). 0 < s) (sym c.no_memory.ensures.memory.status_given) below

pub returns-in-Err-clause-place : goal.returns-in-Err-clause-place
returns-in-Err-clause-place c = λ other. absurd (other c.no_memory.ensures.place)
