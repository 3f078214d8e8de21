use Rattle.std.proofs.Common.{◌≡◌, ◌-◌, ◌++◌, map}
use Rattle.std.specs.List.{AllByRecursion}
use Rattle.moves.specs.Runs.{IsActor}
use Rattle.rand_core.specs.Steps.{stream_of, steps_u32}
use Rattle.rand_pcg.specs.Pcg.{pcg32}
use Rattle.replay.specs.Draws.{draws_from}
use Rattle.trace_text.specs.Traces.{step_sum}
use Rattle.trace_text.specs.declared.trace.Steps.{Steps as SomeSteps}
use Rattle.replay.specs.Lists.{actors_of}
use Rattle.replay.specs.Soaks.{actor_drawn, actors_drawn}
use Rattle.replay.proofs.drawing.drawn_steps.Given as goal

abbrev pub invariant-loop-step : goal.invariant-loop-step
invariant-loop-step l = record {
  lists : actors_drawn l.threads l.seed l.steps ≡ actors_of l.drawn ++ map (actor_drawn l.threads) (draws_from l.threads (l.steps - l._step) (stream_of (steps_u32 pcg32) l.rng));
  are_actors : AllByRecursion (λ (s : SomeSteps). IsActor l.threads s.actor) l.drawn;
  count : step_sum l.drawn ≡ l._step;
}
