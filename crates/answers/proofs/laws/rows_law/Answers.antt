use Rattle.answers.proofs.Rows.{rows_stay, others_stay}
use Rattle.answers.proofs.laws.rows_law.Goals as goal

pub returns-clause-stay : goal.returns-clause-stay
returns-clause-stay c = rows_stay c.locality_law.ensures.given

pub returns-clause-others : goal.returns-clause-others
returns-clause-others c = others_stay c.locality_law.ensures.given
