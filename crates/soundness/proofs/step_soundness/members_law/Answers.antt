use Rattle.soundness.proofs.MembersKept.{members_stay}
use Rattle.soundness.proofs.step_soundness.members_law.Goals as goal

pub returns : goal.returns
returns c = members_stay
