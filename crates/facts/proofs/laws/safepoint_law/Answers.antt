use Rattle.facts.proofs.Stale.{outlasts}
use Rattle.facts.proofs.laws.safepoint_law.Goals as goal

pub returns : goal.returns
returns c = outlasts
