-- the numbers so far, and those that are still to be drawn
use Rattle.std.proofs.Common.{◌≡◌, ◌-◌, ◌++◌}
use Rattle.rand_core.specs.Steps.{stream_of, steps_u32}
use Rattle.rand_pcg.specs.Pcg.{pcg32}
use Rattle.replay.specs.DrawnValues.{numbers_from, values_drawn}
use Rattle.replay.proofs.drawn_values.add_drawn.Given as goal

abbrev pub invariant-loop-value : goal.invariant-loop-value
invariant-loop-value l = l.fn.values ++ values_drawn l.seed l.thread ≡ l.values ++ numbers_from (16 - l._value) (stream_of (steps_u32 pcg32) l.rng)
