use Rattle.library_answers.proofs.sessions.answer_after.Goals as goal

pub returns-clause-given : goal.returns-clause-given
returns-clause-given c = (c.verdict_of-status.result.0, c.verdict_of-status.ensures, c.given.ensures.given)
