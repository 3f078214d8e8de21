use Rattle.module_check.specs.Refusals.{AreOfRange}
use Rattle.module_check.proofs.finding.refusals_in.Given as goal

abbrev pub invariant-loop-number : goal.invariant-loop-number
invariant-loop-number l = AreOfRange l.fn.program l.fn.certs.sections l.fn.from l.number l.found.items
