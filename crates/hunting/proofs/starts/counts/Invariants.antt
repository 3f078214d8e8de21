-- a count for each layout so far
use Rattle.std.proofs.Common.{◌≡◌, length}
use Rattle.hunting.proofs.starts.counts.Given as goal

abbrev pub invariant-loop-layout : goal.invariant-loop-layout
invariant-loop-layout g l = length l.drawn ≡ l._layout
