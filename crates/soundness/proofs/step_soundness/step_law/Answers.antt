use Rattle.std.specs.List.{Contains}
use Rattle.soundness.proofs.Instructions.{instructions_go}
use Rattle.soundness.proofs.step_soundness.step_law.Goals as goal

pub returns : goal.returns
returns c = λ known. instructions_go (Contains known)
