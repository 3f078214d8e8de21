use Rattle.certificate.proofs.AnewFits.{stay_fitting}
use Rattle.certificate.proofs.CertFits.{cert_fits, cert_foreign}
use Rattle.certificate.proofs.CertShapes.{cert_shaped}
use Rattle.certificate.proofs.CertWhole.{cert_whole}
use Rattle.certificate.proofs.PrintedCerts.{cert_printed}
use Rattle.certificate.proofs.PrintedWhole.{printed_alike}
use Rattle.certificate.proofs.laws.cert_law.Goals as goal

pub returns-clause-fit : goal.returns-clause-fit
returns-clause-fit c = cert_fits

pub returns-clause-shaped : goal.returns-clause-shaped
returns-clause-shaped c bytes m certs globals structs is = (cert_shaped bytes m certs globals is, cert_whole bytes m certs globals structs is)

pub returns-clause-foreign : goal.returns-clause-foreign
returns-clause-foreign c = cert_foreign

pub returns-clause-printed : goal.returns-clause-printed
returns-clause-printed c = cert_printed

pub returns-clause-replaced : goal.returns-clause-replaced
returns-clause-replaced c = stay_fitting

pub returns-clause-alike : goal.returns-clause-alike
returns-clause-alike c = printed_alike
