use Rattle.std.proofs.Common.{◌≡◌, length}
use Rattle.certs.specs.NumbersFit.{are_numbered_once}
use Rattle.certs.proofs.numbers.are_numbered_once.Given as goal

abbrev pub invariant-loop-left : goal.invariant-loop-left
invariant-loop-left l = are_numbered_once l.numbers ≡ are_numbered_once l.left

abbrev pub decreases-loop-left : goal.decreases-loop-left
decreases-loop-left l = length l.left
