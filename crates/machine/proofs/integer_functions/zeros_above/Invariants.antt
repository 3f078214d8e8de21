use Rattle.std.proofs.Common.{◌≡◌}
use Rattle.machine.specs.IntegerFunctions.{zeros_above}
use Rattle.machine.proofs.integer_functions.zeros_above.Given as goal

abbrev pub invariant-loop-above : goal.invariant-loop-above
invariant-loop-above l = zeros_above l.above l.left ≡ zeros_above l.bits l.number

abbrev pub decreases-loop-above : goal.decreases-loop-above
decreases-loop-above l = l.above
