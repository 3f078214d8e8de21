use Rattle.answers.proofs.Fits.{section_fits_same, roots_fit_same}
use Rattle.answers.proofs.locality.fit_law.Goals as goal

pub returns-clause-sections : goal.returns-clause-sections
returns-clause-sections c = λ m fs f section along. section_fits_same m fs along f section

pub returns-clause-roots : goal.returns-clause-roots
returns-clause-roots c = λ m fs shapes f along. roots_fit_same m fs shapes along f
