use Rattle.recheck.proofs.Fitting.{fitting}
use Rattle.recheck.proofs.laws.fitting_law.Goals as goal

pub returns : goal.returns
returns c = fitting c.cert_law.ensures.replaced c.fit_law.ensures.sections c.fit_law.ensures.roots
