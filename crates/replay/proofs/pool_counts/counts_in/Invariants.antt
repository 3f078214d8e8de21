-- the counts of the layouts so far
use Rattle.std.proofs.Common.{◌≡◌, take}
use Rattle.replay.proofs.pool_counts.counts_in.Given as goal

abbrev pub invariant-loop-layout : goal.invariant-loop-layout
invariant-loop-layout l = l.counts ≡ take l.layout l.pools
