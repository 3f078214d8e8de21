use Rattle.std.proofs.Common.{rules, ◌≡◌, Err, ap}
use Rattle.certificate.specs.Replaced.{IsReplaced}
use Rattle.certificate.specs.declared.fault.CertFault.{CertFault}
use Rattle.certificate.proofs.AnewFits.{stay_fitting}
use Rattle.certificate.proofs.replaced.replace_section.Goals as goal

pub returns-clause-fits : goal.returns-clause-fits
returns-clause-fits c =
    let is : IsReplaced c.args.bytes.now c.args.module.now c.args.function c.args.certs.now.sections c.set.new.self = search rules in
    λ others. stay_fitting c.args.bytes.now c.args.module.now c.args.function c.args.certs.now.sections c.set.new.self is others

pub returns-in-Err-clause-only_fault : goal.returns-in-Err-clause-only_fault
returns-in-Err-clause-only_fault c = λ e h other.
    let said = c.in-Err.ensures.only_fault e h other in
    let same : e ≡ c.in-Err.fault = cc in
    ap (λ (x : CertFault). Err x) same
