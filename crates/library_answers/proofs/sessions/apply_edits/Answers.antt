use Rattle.std.proofs.Common.{List, inl, inr, refl, subst}
use Rattle.recheck.specs.declared.edit.Edit.{Edit}
use Rattle.library_answers.specs.Sessions.{IsEditedBy}
use Rattle.library_answers.proofs.Accepted.{of_applied}
use Rattle.library_answers.proofs.sessions.apply_edits.Goals as goal

pub returns-in-Ok-clause-said : goal.returns-in-Ok-clause-said
returns-in-Ok-clause-said c =
    let after = c.apply_each-answer.new in
    let edited = subst (λ (edits : List Edit). IsEditedBy edits c.args.session.now after.session c.args.room.now after.room c.apply_each-answer.result) c.as_slice.ensures c.apply_each-answer.ensures in
    inl (c.in-Ok.edits, c.in-Ok.ensures.found, edited)

pub returns-in-Ok-clause-accepted : goal.returns-in-Ok-clause-accepted
returns-in-Ok-clause-accepted c =
    let after = c.apply_each-answer.new in
    of_applied c.args.edits.now c.args.session.now after.session c.args.room.now after.room c.apply_each-answer.result (returns-in-Ok-clause-said c)

pub returns-in-Err-clause-said : goal.returns-in-Err-clause-said
returns-in-Err-clause-said c = inr (c.in-Err.fault, c.in-Err.ensures.fault, refl, c.not_read.ensures.said)

pub returns-in-Err-clause-accepted : goal.returns-in-Err-clause-accepted
returns-in-Err-clause-accepted c =
    let s = c.args.session.now in
    of_applied c.args.edits.now s s c.args.room.now c.not_read.new.room c.not_read.result (returns-in-Err-clause-said c)
