use Rattle.block_rules.specs.Functions.{AreBlocksCertified}
use Rattle.block_check.proofs.check.first_fault.Given as goal

abbrev pub invariant-loop-number : goal.invariant-loop-number
invariant-loop-number l = AreBlocksCertified l.under_check.context.program.now l.under_check.context.certs.now.sections l.under_check.func l.number
