-- Each number that is drawn is one step of its actor.
use Rattle.std.proofs.Common.{◌≡◌, ◌+◌, ◌-◌, [], ◌++◌, map, sym, ap, subst, ◌∙◌}
use Rattle.std.specs.List.{AllByRecursion}
use Rattle.std.proofs.lemmas.List.{append-nil}
use Rattle.moves.specs.Runs.{IsActor}
use Rattle.rand_core.specs.Steps.{stream_of, steps_u32}
use Rattle.rand_pcg.specs.Pcg.{pcg32}
use Rattle.replay.specs.Draws.{seeded, draws_from}
use Rattle.trace_text.specs.Traces.{step_sum}
use Rattle.trace_text.specs.declared.trace.Steps.{Steps as SomeSteps}
use Rattle.replay.specs.Lists.{actors_of}
use Rattle.replay.specs.Soaks.{actor_drawn, actors_drawn}
use Rattle.replay.proofs.Drawings.{drawn-none, drawn-more, drawn-all, steps-more, actors-more, sum-more}
use Rattle.replay.proofs.drawing.drawn_steps.Goals as goal

pub loop-step-init : goal.loop-step-init
loop-step-init c =
    let n = c.args.threads in
    let left = map (actor_drawn n) (draws_from n (c.args.steps - 0) (stream_of (steps_u32 pcg32) c.seeded-rng.result)) in
    let none : c.new-drawn.result ≡ [] = c.new-drawn.ensures in
    record {
      lists = drawn-none n c.args.seed c.args.steps (stream_of (steps_u32 pcg32) c.seeded-rng.result) (c.seeded-rng.ensures ∙ ap seeded c.from.ensures) ∙ ap (λ l. actors_of l ++ left) (sym none);
      are_actors = subst (λ l. AllByRecursion (λ (s : SomeSteps). IsActor n s.actor) l) (sym none) tt;
      count = ap step_sum none;
    }

pub loop-step-preserved : goal.loop-step-preserved
loop-step-preserved c =
    let n = c.args.threads in
    let i = c.loop-step._step in
    let actor = c.actor_drawn-actor.result in
    let s = stream_of (steps_u32 pcg32) c.loop-step.rng in
    let t = stream_of (steps_u32 pcg32) c.draw.new.rng in
    let left' = map (actor_drawn n) (draws_from n (c.args.steps - (i + 1)) t) in
    let push = c.in_ok-push.ensures.ok in
    record {
      lists = steps-more (actors_drawn n c.args.seed c.args.steps) c.loop-step.drawn actor (actor_drawn n c.draw.result) (map (actor_drawn n) (draws_from n (c.args.steps - i) s)) left' c.loop-step.invariant.lists
          (drawn-more n c.args.steps i c.draw.result s t c.loop-step-test.true c.draw.ensures.drawn) c.actor_drawn-actor.ensures.actor ∙ ap (λ l. actors_of l ++ left') (sym push);
      are_actors = subst (λ l. AllByRecursion (λ (s : SomeSteps). IsActor n s.actor) l) (sym push) (actors-more n c.loop-step.drawn (record { actor = actor; count = 1 }) c.loop-step.invariant.are_actors c.actor_drawn-actor.ensures.is_actor);
      count = ap step_sum push ∙ sum-more c.loop-step.drawn actor ∙ ap (λ k. k + 1) c.loop-step.invariant.count;
    }

pub returns-clause-actors : goal.returns-clause-actors
returns-clause-actors c =
    let n = c.args.threads in
    let none = drawn-all n c.args.steps c.loop-step._step (stream_of (steps_u32 pcg32) c.loop-step.rng) c.loop-step-test.false in
    sym (c.loop-step.invariant.lists ∙ ap (λ l. actors_of c.loop-step.drawn ++ l) none ∙ append-nil (actors_of c.loop-step.drawn))
