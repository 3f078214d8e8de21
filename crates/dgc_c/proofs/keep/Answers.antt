use Rattle.std.proofs.Common.{inl, inr, arith, subst}
use Rattle.dgc_c.specs.declared.kept.Kept.{Kept}
use Rattle.library_answers.specs.Sessions.{IsAcceptedNow, IsOfSession}
use Rattle.library_answers.specs.Told.{IsAnswered}
use Rattle.dgc_c.proofs.keep.Goals as goal

pub returns-in-Ok-clause-said : goal.returns-in-Ok-clause-said
returns-in-Ok-clause-said c =
    inl (subst (λ (kept : Kept). IsAnswered (IsOfSession kept.session) c.args.room.now c.hand_out.new.room c.hand_out.result) c.in-Ok.ensures.ok c.hand_out.ensures.said)

pub returns-in-Ok-clause-accepted : goal.returns-in-Ok-clause-accepted
returns-in-Ok-clause-accepted c = λ zero. subst (λ (kept : Kept). IsAcceptedNow kept.session) c.in-Ok.ensures.ok (c.hand_out.ensures.accepted zero)

pub returns-clause-said : goal.returns-clause-said
returns-clause-said c = inr c.no_session.ensures

pub returns-clause-accepted : goal.returns-clause-accepted
returns-clause-accepted c = λ zero. let none = c.no_session.ensures in absurd (omega (arith, zero, none))
