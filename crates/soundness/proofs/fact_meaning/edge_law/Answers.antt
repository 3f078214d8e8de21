use Rattle.soundness.proofs.Edges.{edge_holds}
use Rattle.soundness.proofs.fact_meaning.edge_law.Goals as goal

pub returns : goal.returns
returns c = λ heap s log cells facts registers slots from to h size e. edge_holds heap s (λ cell. ⊥) log cells facts registers slots from to h size e
