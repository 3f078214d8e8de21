use Rattle.soundness.proofs.Run.{never_wrong}
use Rattle.soundness.proofs.discipline_law.Goals as goal

pub returns : goal.returns
returns c = never_wrong
