use Rattle.std.proofs.Common.{◌≡◌, ◌≤◌, ◌+◌, ◌-◌}
use Rattle.machine.specs.IntegerFunctions.{ones}
use Rattle.machine.proofs.integer_functions.ones.Given as goal

abbrev pub invariant-loop-turn : goal.invariant-loop-turn
invariant-loop-turn l = record { sum : l.count + ones (l.bits - l.turn) l.left ≡ ones l.bits l.number; within : l.count ≤ l.turn }
