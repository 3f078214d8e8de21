use Rattle.std.proofs.Common.{subst}
use Rattle.block_rules.specs.Certified.{BlockCertified}
use Rattle.block_check.proofs.Refused.{one_more}
use Rattle.block_check.proofs.check.first_fault.Goals as goal

pub loop-number-preserved : goal.loop-number-preserved
loop-number-preserved c =
    let program = c.args.under_check.now.context.program.now in
    let certs = c.args.under_check.now.context.certs.now.sections in
    let func = c.args.under_check.now.func in
    let last = subst (λ block. BlockCertified program certs func block) c.new.ensures c.in_default.ensures in
    one_more program certs func c.loop-number.number c.loop-number.invariant last
