use Rattle.facts.proofs.Implies.{implies_what_is_said}
use Rattle.facts.proofs.laws.show_law.Goals as goal

pub returns : goal.returns
returns c = implies_what_is_said
