use Rattle.std.proofs.Common.{ℕ, List, inl, inr, arith, subst}
use Rattle.library_answers.specs.Sessions.{IsOfSession}
use Rattle.library_answers.specs.Told.{IsAnswered}
use Rattle.dgc_c.proofs.opened.Goals as goal

pub returns-in-Ok-clause-said : goal.returns-in-Ok-clause-said
returns-in-Ok-clause-said c =
    let s = c.in-Ok.begun in
    elim c.keep.ensures.said [
      | inl told ↦ inl (s, c.in-Ok.ensures.begun, subst (λ (room : List ℕ). IsAnswered (IsOfSession s) room c.keep.new.room c.keep.result) c.in-Ok.ensures.kept told)
      | inr none ↦ inr none
    ]

pub returns-in-Ok-clause-accepted : goal.returns-in-Ok-clause-accepted
returns-in-Ok-clause-accepted c = λ zero. c.in-Ok.ensures.accepted (c.keep.ensures.accepted zero)

pub returns-in-Err-clause-said : goal.returns-in-Err-clause-said
returns-in-Err-clause-said c = inr c.in-Err.ensures.none

pub returns-in-Err-clause-accepted : goal.returns-in-Err-clause-accepted
returns-in-Err-clause-accepted c = λ zero. let none = c.in-Err.ensures.none in absurd (omega (arith, zero, none))
