use Rattle.program_safety.proofs.Threads.{all_sound}
use Rattle.program_safety.proofs.law.program_law.Goals as goal

pub returns-clause-careful : goal.returns-clause-careful
returns-clause-careful c program certs all heap starts for begun =
    c.soundness_law.ensures.careful heap starts (all_sound c.discipline_law.ensures program certs all heap starts for begun)

pub returns-clause-safe : goal.returns-clause-safe
returns-clause-safe c program certs all heap starts for setup begun =
    c.soundness_law.ensures.safe heap starts setup (all_sound c.discipline_law.ensures program certs all heap starts for begun)
