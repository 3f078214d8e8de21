use Rattle.std.proofs.Common.{◌≡◌, ◌<◌, ◌+◌, ◌-◌, ◌*◌, ◌^◌}
use Rattle.machine.specs.IntegerFunctions.{reversed}
use Rattle.machine.proofs.integer_functions.reversed.Given as goal

abbrev pub invariant-loop-turn : goal.invariant-loop-turn
invariant-loop-turn l = record {
  whole : l.turned * l.base ^ (l.digits - l.turn) + reversed l.base (l.digits - l.turn) l.left ≡ reversed l.base l.digits l.number;
  within : l.turned < l.base ^ l.turn;
}
