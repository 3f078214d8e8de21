use Rattle.std.proofs.Common.{refl}
use Rattle.worked_module.proofs.Foreign as foreign
use Rattle.worked_module.proofs.Opaque.{program, certs, heap, starts, worked}
use Rattle.worked_module.proofs.worked_module_law.Goals as goal

pub returns-clause-opaque : goal.returns-clause-opaque
returns-clause-opaque c = (program, certs, heap, starts, refl, worked)

pub returns-clause-foreign : goal.returns-clause-foreign
returns-clause-foreign c = (foreign.program, foreign.certs, foreign.heap, foreign.starts, foreign.calls_outside, foreign.worked)
