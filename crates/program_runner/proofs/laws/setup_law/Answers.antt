use Rattle.program_runner.specs.SafeSetups.{certified_setup}
use Rattle.program_runner.proofs.laws.setup_law.Goals as goal

pub returns : goal.returns
returns c = certified_setup c.program_law.ensures.safe
