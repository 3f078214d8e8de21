-- Each number that is drawn makes one step of its actor.
use Rattle.std.proofs.Common.{length, [], ◌∷◌, refl, ap, subst, ◌∙◌}
use Rattle.rand_core.specs.Steps.{stream_of, steps_u32}
use Rattle.rand_pcg.specs.Pcg.{pcg32}
use Rattle.replay.specs.Draws.{seeded}
use Rattle.replay.specs.Soaks.{actors_drawn}
use Rattle.replay.specs.Watched.{IsWatchedOn}
use Rattle.replay.proofs.Drawings.{drawn-none, seed-goes-on, seed-breaks, seed-sound}
use Rattle.replay.proofs.soaking.end_from.Goals as goal

pub loop-step-init : goal.loop-step-init
loop-step-init c = record {
  before = [];
  is = c.in_ok-watch.ensures.ok;
  lists = drawn-none (length c.args.setup.now.starts) c.args.seed c.args.steps (stream_of (steps_u32 pcg32) c.seeded-rng.result) (c.seeded-rng.ensures ∙ ap seeded c.from.ensures);
  count = refl;
}

pub returns-in-Some-clause-end : goal.returns-in-Some-clause-end
returns-in-Some-clause-end c =
    let n = length c.args.setup.now.starts in
    let actor = c.actor_drawn-actor.result in
    seed-breaks c.args.program.now c.args.setup.now (actors_drawn n c.args.seed c.args.steps) _ n c.args.steps c.loop-step._step c.draw.result _ (stream_of (steps_u32 pcg32) c.draw.new.rng) actor c.loop-step.watch c.step.new.self c.in-Some.broken
    c.len-threads.ensures c.loop-step-test.true c.draw.ensures.drawn c.actor_drawn-actor.ensures.actor c.loop-step.invariant
    (λ q begun before is. subst (λ o. IsWatchedOn q begun before (actor ∷ []) c.step.new.self o) c.in-Some.is (c.in-Ok.ensures q begun before is))

pub loop-step-preserved : goal.loop-step-preserved
loop-step-preserved c =
    let n = length c.args.setup.now.starts in
    let actor = c.actor_drawn-actor.result in
    seed-goes-on c.args.program.now c.args.setup.now (actors_drawn n c.args.seed c.args.steps) _ n c.args.steps c.loop-step._step c.draw.result _ (stream_of (steps_u32 pcg32) c.draw.new.rng) actor c.loop-step.watch c.step.new.self
    c.len-threads.ensures c.loop-step-test.true c.draw.ensures.drawn c.actor_drawn-actor.ensures.actor c.loop-step.invariant
    (λ q begun before is. subst (λ o. IsWatchedOn q begun before (actor ∷ []) c.step.new.self o) c.in_default.is (c.in-Ok.ensures q begun before is))

pub returns-clause-end : goal.returns-clause-end
returns-clause-end c =
    seed-sound c.args.program.now c.args.setup.now (actors_drawn (length c.args.setup.now.starts) c.args.seed c.args.steps) (length c.args.setup.now.starts) c.args.steps c.loop-step._step (stream_of (steps_u32 pcg32) c.loop-step.rng) c.loop-step.watch
    c.loop-step-test.false c.loop-step.invariant
