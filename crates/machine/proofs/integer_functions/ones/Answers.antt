use Rattle.std.proofs.Common.{arith}
use Rattle.machine.proofs.Turns.{ones_turn}
use Rattle.machine.proofs.integer_functions.ones.Goals as goal

pub loop-turn-preserved : goal.loop-turn-preserved
loop-turn-preserved c = record {
  sum = omega (arith, c.loop-turn.invariant.sum, ones_turn c.args.bits c.loop-turn.turn c.loop-turn.left (c.loop-turn-test.true));
  within = omega (arith, c.loop-turn.invariant.within);
}
