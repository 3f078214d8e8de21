use Rattle.std.proofs.Common.{inl, inr, refl}
use Rattle.library_answers.proofs.Answered.{given_same}
use Rattle.library_answers.proofs.sessions.apply_each.Goals as goal

pub returns-in-Ok : goal.returns-in-Ok
returns-in-Ok c =
    let told = c.answer_after.ensures.given in
    inl (c.in-Ok.lines.items, told.0, c.in-Ok.ensures, told.1, given_same _ _ _ _ _ _ c.answer_after.result refl c.as_slice.ensures.value told.2)

pub returns-in-Err : goal.returns-in-Err
returns-in-Err c = inr c.no_memory.ensures.memory
