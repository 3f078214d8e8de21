use Rattle.module_check.specs.Accepted.{IsModuleCertified}
use Rattle.module_check.proofs.verdict.fault_in_functions.Given as goal

abbrev pub invariant-loop-number : goal.invariant-loop-number
invariant-loop-number l = IsModuleCertified l.fn.program l.fn.certs.sections l.number
