use Rattle.std.proofs.Common.{◌-◌, length, map}
use Rattle.rand_core.specs.Steps.{stream_of, steps_u32}
use Rattle.rand_pcg.specs.Pcg.{pcg32}
use Rattle.replay.specs.Draws.{draws_from}
use Rattle.replay.specs.Soaks.{actor_drawn, actors_drawn}
use Rattle.replay.proofs.Drawings.{IsDrawing}
use Rattle.replay.proofs.soaking.end_from.Given as goal

abbrev pub invariant-loop-step : goal.invariant-loop-step
invariant-loop-step l = IsDrawing l.program l.setup (actors_drawn (length l.setup.starts) l.seed l.steps) (map (actor_drawn (length l.setup.starts)) (draws_from (length l.setup.starts) (l.steps - l._step) (stream_of (steps_u32 pcg32) l.rng))) l._step l.watch
