use Rattle.std.proofs.Common.{refl}
use Rattle.std.proofs.lemmas.Result.{IfOk-weaker}
use Rattle.certificate.proofs.CertFits.{cert_fits, cert_foreign}
use Rattle.certificate.proofs.CertShapes.{cert_shaped}
use Rattle.certificate.proofs.reader.read_cert.Goals as goal

pub returns-in-Ok-clause-fits : goal.returns-in-Ok-clause-fits
returns-in-Ok-clause-fits c = IfOk-weaker c.certs_after.result _ _ (λ certs is. cert_fits c.args.bytes.now c.args.module.now certs is) c.certs_after.ensures.found

pub returns-in-Ok-clause-shapes : goal.returns-in-Ok-clause-shapes
returns-in-Ok-clause-shapes c = λ globals. IfOk-weaker c.certs_after.result _ _ (λ certs is. cert_shaped c.args.bytes.now c.args.module.now certs globals is) c.certs_after.ensures.found

pub returns-in-Ok-clause-foreign : goal.returns-in-Ok-clause-foreign
returns-in-Ok-clause-foreign c = IfOk-weaker c.certs_after.result _ _ (λ certs is. cert_foreign c.args.bytes.now c.args.module.now certs is) c.certs_after.ensures.found

pub returns-in-Err-clause-only : goal.returns-in-Err-clause-only
returns-in-Err-clause-only c = λ certs is other. absurd (other refl)

pub returns-in-Err-clause-fault : goal.returns-in-Err-clause-fault
returns-in-Err-clause-fault c = λ other. absurd (other refl)

pub returns-in-Err-clause-only_fault : goal.returns-in-Err-clause-only_fault
returns-in-Err-clause-only_fault c = λ e is other. absurd (other refl)
