use Rattle.facts.proofs.Classes.{learns}
use Rattle.facts.proofs.laws.learn_law.Goals as goal

pub returns : goal.returns
returns c = learns
