use Rattle.facts.proofs.Classes.{publishes}
use Rattle.facts.proofs.laws.publish_law.Goals as goal

pub returns : goal.returns
returns c = publishes
