use Rattle.std.proofs.Common.{◌≡◌, ◌≤◌, ◌+◌, ◌-◌}
use Rattle.machine.specs.IntegerFunctions.{zeros_below}
use Rattle.machine.proofs.integer_functions.zeros_below.Given as goal

abbrev pub invariant-loop-below : goal.invariant-loop-below
invariant-loop-below l = record { sum : l.below + zeros_below (l.bits - l.below) l.left ≡ zeros_below l.bits l.number; within : l.below ≤ l.bits }

abbrev pub decreases-loop-below : goal.decreases-loop-below
decreases-loop-below l = l.bits - l.below
