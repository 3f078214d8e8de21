use Rattle.module_check.proofs.Threads.{disciplined, promised}
use Rattle.module_check.proofs.accepted.Accepted.of.Goals as goal

pub returns-clause-disciplined : goal.returns-clause-disciplined
returns-clause-disciplined c = disciplined c.discipline_law.ensures c.args.program c.args.certs.sections c.requires

pub returns-clause-careful : goal.returns-clause-careful
returns-clause-careful c = promised c.program_law.ensures.careful c.args.program c.args.certs.sections c.requires

pub returns-clause-safe : goal.returns-clause-safe
returns-clause-safe c = promised c.program_law.ensures.safe c.args.program c.args.certs.sections c.requires
