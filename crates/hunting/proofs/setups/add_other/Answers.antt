use Rattle.std.proofs.Common.{◌-◌}
use Rattle.hunting.proofs.setups.add_other.Goals as goal

pub returns-in_ok-add_line-in-Some-clause-actors : goal.returns-in_ok-add_line-in-Some-clause-actors
returns-in_ok-add_line-in-Some-clause-actors c threads within actor all = c.in_ok-add_line-in-Some.ensures.actors (threads - 1) all (c.in-Some.ensures threads within actor)
