use Rattle.std.proofs.Common.{arith}
use Rattle.machine.proofs.Turns.{below_turn}
use Rattle.machine.proofs.integer_functions.zeros_below.Goals as goal

pub loop-below-preserved : goal.loop-below-preserved
loop-below-preserved c = record {
  sum = omega (arith, c.loop-below.invariant.sum, below_turn c.args.bits c.loop-below.below c.loop-below.left (omega (arith, c.loop-below-test.true)) (omega (arith, c.if-left-eq0.true)));
  within = omega (arith, c.loop-below-test.true);
}
