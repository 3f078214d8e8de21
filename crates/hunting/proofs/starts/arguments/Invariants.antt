-- the arguments so far are of 64 bits
use Rattle.std.proofs.Common.{◌<◌, ◌^◌}
use Rattle.std.specs.List.{AllByRecursion}
use Rattle.hunting.proofs.starts.arguments.Given as goal

abbrev pub invariant-loop-place : goal.invariant-loop-place
invariant-loop-place g l = AllByRecursion (λ argument. argument < 2 ^ 64) l.drawn
