use Rattle.std.proofs.Common.{◌≡◌, length}
use Rattle.certs.specs.ForeignFit.{are_once}
use Rattle.certs.proofs.foreign.are_once.Given as goal

abbrev pub invariant-loop-left : goal.invariant-loop-left
invariant-loop-left l = are_once l.symbols ≡ are_once l.left

abbrev pub decreases-loop-left : goal.decreases-loop-left
decreases-loop-left l = length l.left
