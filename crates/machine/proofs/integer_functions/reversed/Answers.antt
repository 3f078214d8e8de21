use Rattle.std.proofs.Common.{arith, ◌∙◌}
use Rattle.machine.proofs.Turns.{digit_turned, turned_within, turned_fits}
use Rattle.machine.proofs.integer_functions.reversed.Goals as goal

pub overflow_mul-turned : goal.overflow_mul-turned
overflow_mul-turned c =
    let fits = turned_fits c.args.base c.args.digits c.loop-turn.turn c.loop-turn.turned c.loop-turn.left c.requires.some c.loop-turn-test.true c.requires.room c.loop-turn.invariant.within in
    omega (arith, fits)

pub overflow_add-turned : goal.overflow_add-turned
overflow_add-turned c =
    let fits = turned_fits c.args.base c.args.digits c.loop-turn.turn c.loop-turn.turned c.loop-turn.left c.requires.some c.loop-turn-test.true c.requires.room c.loop-turn.invariant.within in
    omega (arith, fits)

pub loop-turn-preserved : goal.loop-turn-preserved
loop-turn-preserved c = record {
  whole = digit_turned c.args.base c.args.digits c.loop-turn.turn c.loop-turn.turned c.loop-turn.left c.loop-turn-test.true ∙ c.loop-turn.invariant.whole;
  within = turned_within c.args.base c.loop-turn.turn c.loop-turn.turned c.loop-turn.left c.requires.some c.loop-turn.invariant.within;
}
