use Rattle.std.proofs.Common.{◌∙◌, inl, inr, refl}
use Rattle.library_answers.proofs.Answered.{given_same}
use Rattle.library_answers.proofs.answer.told.Goals as goal

pub returns-in-Ok-clause-given : goal.returns-in-Ok-clause-given
returns-in-Ok-clause-given c = inl (given_same _ _ _ _ _ _ c.given.result refl (c.as_slice.ensures.value ∙ c.in-Ok.ensures) c.given.ensures.given)

pub returns-in-Ok-clause-place : goal.returns-in-Ok-clause-place
returns-in-Ok-clause-place c = inl c.given.ensures.place

pub returns-in-Err-clause-given : goal.returns-in-Err-clause-given
returns-in-Err-clause-given c = inr c.no_memory.ensures.memory

pub returns-in-Err-clause-place : goal.returns-in-Err-clause-place
returns-in-Err-clause-place c = inr c.no_memory.ensures.place
