use Rattle.std.proofs.Common.{refl}
use Rattle.check_commands.specs.Rechecks.{session_accepted, session_refused}
use Rattle.library_answers.proofs.sessions.verdict_of.Goals as goal

pub returns-in-None : goal.returns-in-None
returns-in-None c = (_, session_accepted c.in-None.ensures, refl)

pub returns-in-Some : goal.returns-in-Some
returns-in-Some c = (_, session_refused c.in-Some.refusal c.in-Some.ensures, refl)
