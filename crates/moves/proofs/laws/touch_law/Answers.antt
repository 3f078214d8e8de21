-- The law is that of every machine.
use Rattle.runs.specs.Machine.{machine_of}
use Rattle.moves.specs.Breaks.{first_cause}
use Rattle.moves.proofs.laws.touch_law.Goals as goal

pub returns : goal.returns
returns g c s starts run t roots shared made cause afterwards breaks =
    first_cause s (machine_of g.M.Machine.action g.M.Machine.after_answer g.M.Machine.roots) starts run t roots shared made cause afterwards breaks
