use Rattle.std.proofs.Common.{refl}
use Rattle.certificate.proofs.shape_text.read_shapes.Goals as goal

pub returns-in-Err-clause-only : goal.returns-in-Err-clause-only
returns-in-Err-clause-only c = λ shapes is other. absurd (other refl)

pub returns-in-Err-clause-fault : goal.returns-in-Err-clause-fault
returns-in-Err-clause-fault c = λ other. absurd (other refl)

pub returns-in-Err-clause-only_fault : goal.returns-in-Err-clause-only_fault
returns-in-Err-clause-only_fault c = λ e is other. absurd (other refl)
