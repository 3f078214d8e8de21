use Rattle.certs.specs.Plain.{plain_fits}
use Rattle.cert_maker.proofs.plain.plain.Goals as goal

pub returns-in_err-sections-clause-fits : goal.returns-in_err-sections-clause-fits
returns-in_err-sections-clause-fits c = plain_fits c.args.of_module.now

pub returns-clause-fits : goal.returns-clause-fits
returns-clause-fits c = plain_fits c.args.of_module.now
