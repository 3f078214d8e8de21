use Rattle.std.proofs.Common.{arith}
use Rattle.pools.specs.Ends.{first_from_end}
use Rattle.pools.proofs.pools.first_of.Goals as goal

pub bounds-ends-layout : goal.bounds-ends-layout
bounds-ends-layout c = (first_from_end _ _ _ c.requires.ends_are c.requires.is_layout).0

pub overflow_sub-result : goal.overflow_sub-result
overflow_sub-result c = let end = (first_from_end _ _ _ c.requires.ends_are c.requires.is_layout).1 in omega (arith, end)

pub returns : goal.returns
returns c = let end = (first_from_end _ _ _ c.requires.ends_are c.requires.is_layout).1 in omega (arith, end)
