use Rattle.parallel_check.proofs.Answered.{accepted, certified, only, verdict}
use Rattle.parallel_check.proofs.checking.check_with.Goals as goal

pub returns-clause-accepted : goal.returns-clause-accepted
returns-clause-accepted g c =
    let found = c.in_ok-under.ensures in
    let under = c.in_ok-under.under in
    accepted under.program c.args.of_module under.certs c.args.certs found.of_module found.certs found.laid_out.0 found.laid_out.1 c.check_under.result c.check_under.ensures.certified

pub returns-clause-certified : goal.returns-clause-certified
returns-clause-certified g c =
    let found = c.in_ok-under.ensures in
    let under = c.in_ok-under.under in
    certified under.program c.args.of_module under.certs c.args.certs found.of_module found.certs found.laid_out.0 found.laid_out.1 c.check_under.result c.check_under.ensures.kept c.check_under.ensures.certified

pub returns-clause-verdict : goal.returns-clause-verdict
returns-clause-verdict g c =
    let found = c.in_ok-under.ensures in
    let under = c.in_ok-under.under in
    verdict under.program c.args.of_module under.certs c.args.certs found.of_module found.certs found.laid_out.0 found.laid_out.1 c.check_under.result c.check_under.ensures.refused

pub returns-clause-only : goal.returns-clause-only
returns-clause-only g c =
    let found = c.in_ok-under.ensures in
    let under = c.in_ok-under.under in
    only under.program c.args.of_module under.certs c.args.certs found.of_module found.certs found.laid_out.0 found.laid_out.1 c.check_under.result c.check_under.ensures.refused
