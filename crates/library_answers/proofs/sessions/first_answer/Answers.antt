use Rattle.std.proofs.Common.{inr, refl}
use Rattle.std.proofs.lemmas.Result.{IfOk-weaker}
use Rattle.reports.specs.Said.{OnOutput}
use Rattle.reports.specs.declared.outputs.Outputs.{Outputs}
use Rattle.library_answers.specs.Sessions.{IsOfSession}
use Rattle.library_answers.proofs.Accepted.{of_told}
use Rattle.library_answers.proofs.Answered.{answered}
use Rattle.library_answers.proofs.sessions.first_answer.Goals as goal

pub returns-in-Ok-clause-said : goal.returns-in-Ok-clause-said
returns-in-Ok-clause-said c =
    let old = c.nothing-outputs.result in
    let new : Outputs = record { out = c.write_verdict-printed.new.lines; err = old.err } in
    answered (IsOfSession c.args.session.now) old new c.write_verdict-printed.result _ _ c.answer_of.result c.nothing-outputs.ensures.out c.nothing-outputs.ensures.err
    (IfOk-weaker c.write_verdict-printed.result _ _ (λ status told. (OnOutput told.0, (told.0, told.1, refl), (told.2, refl))) c.write_verdict-printed.ensures)
    c.answer_of.ensures.printed c.answer_of.ensures.failed

pub returns-in-Ok-clause-accepted : goal.returns-in-Ok-clause-accepted
returns-in-Ok-clause-accepted c = of_told c.args.session.now c.args.room.now c.answer_of.new.room c.answer_of.result (returns-in-Ok-clause-said c)

pub returns-in-Err-clause-said : goal.returns-in-Err-clause-said
returns-in-Err-clause-said c = inr c.no_memory.ensures.memory

pub returns-in-Err-clause-accepted : goal.returns-in-Err-clause-accepted
returns-in-Err-clause-accepted c = of_told c.args.session.now c.args.room.now c.no_memory.new.room c.no_memory.result (returns-in-Err-clause-said c)
