use Rattle.std.proofs.Common.{◌∙◌}
use Rattle.hunting.proofs.setups.with_fewer_cells.Goals as goal

pub returns-clause-pools : goal.returns-clause-pools
returns-clause-pools c within = c.in_ok-pools.ensures.pools within

pub returns-clause-starts : goal.returns-clause-starts
returns-clause-starts c = c.in_ok-starts.ensures ∙ c.as_slice.ensures

pub returns-clause-steps : goal.returns-clause-steps
returns-clause-steps c = c.in_ok-steps.ensures ∙ c.as_slice-2.ensures
