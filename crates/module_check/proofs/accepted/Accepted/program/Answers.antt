use Rattle.std.proofs.Common.{subst}
use Rattle.program_safety.specs.Safety.{IsCarefulProgram, IsSafeProgram}
use Rattle.module_check.specs.Discipline.{AreDisciplined}
use Rattle.module_check.proofs.Threads.{disciplined, promised}
use Rattle.module_check.proofs.accepted.Accepted.program.Goals as goal

pub returns-clause-disciplined : goal.returns-clause-disciplined
returns-clause-disciplined c =
    subst (λ accepted. AreDisciplined c.self.inside.program accepted.certs.sections) c.self.view_is (disciplined c.discipline_law.ensures c.self.inside.program c.self.inside.certs.sections c.self.invariant)

pub returns-clause-careful : goal.returns-clause-careful
returns-clause-careful c =
    subst (λ accepted. IsCarefulProgram c.self.inside.program accepted.certs.sections) c.self.view_is (promised c.program_law.ensures.careful c.self.inside.program c.self.inside.certs.sections c.self.invariant)

pub returns-clause-safe : goal.returns-clause-safe
returns-clause-safe c = subst (λ accepted. IsSafeProgram c.self.inside.program accepted.certs.sections) c.self.view_is (promised c.program_law.ensures.safe c.self.inside.program c.self.inside.certs.sections c.self.invariant)
