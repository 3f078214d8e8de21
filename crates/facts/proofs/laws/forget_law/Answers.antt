use Rattle.facts.proofs.Forgets.{forgets}
use Rattle.facts.proofs.laws.forget_law.Goals as goal

pub returns : goal.returns
returns c = forgets
