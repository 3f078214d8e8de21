-- The step is the actor's, the world is the one after it, and what is kept is how its threads ended.
use Rattle.std.proofs.Common.{◌≡◌, refl}
use Rattle.program_runner.specs.Heaps.{heap_of}
use Rattle.program_runner.specs.Setups.{starts_of}
use Rattle.replay.specs.Keeping.{endings_after}
use Rattle.replay.specs.WorldView.{world_seen}
use Rattle.replay.proofs.WorldSteps.{IsMadeBy, are_after, is_actor, keeps, tells, stays_safe}
use Rattle.replay.proofs.world.World.step.Goals as goal

pub step-made-requires : goal.step-made-requires
step-made-requires c =
    let i = c.self.inside in
    let made = c.self.invariant.made in (
      heap_of i.program.now i.setup.now,
      starts_of i.program.now i.setup.now,
      made.0,
      are_after i (world_seen i) made.0 refl c.self.invariant made.1,
      is_actor i c.args.self.now c.args.actor c.self.view_is c.requires,
    )

pub invariant_of-self-in-Thread : goal.invariant_of-self-in-Thread
invariant_of-self-in-Thread c =
    let i = c.self.inside in
    let is = is_actor i c.args.self.now c.args.actor c.self.view_is c.requires in
    let are : c.set.new.self ≡ endings_after c.args.actor i.actors.threads.items i.endings = cc in
    let by : IsMadeBy i c.args.actor c.step-made.result c.step-made.new.self c.set.new.self = record {
      is_actor = is;
      endings_are = are;
      makes = λ before b. c.step-made.ensures.ok (heap_of i.program.now i.setup.now) (starts_of i.program.now i.setup.now) before b is;
    } in
    keeps i c.args.actor c.step-made.result c.is_err.result c.step-made.new.self c.set.new.self c.self.invariant c.is_err.ensures.value c.if-is_err.false by

pub returns-in-Thread-clause-ok : goal.returns-in-Thread-clause-ok
returns-in-Thread-clause-ok c before after =
    let i = c.self.inside in
    let is = is_actor i c.args.self.now c.args.actor c.self.view_is c.requires in
    let are : c.set.new.self ≡ endings_after c.args.actor i.actors.threads.items i.endings = cc in
    let by : IsMadeBy i c.args.actor c.step-made.result c.step-made.new.self c.set.new.self = record {
      is_actor = is;
      endings_are = are;
      makes = λ before b. c.step-made.ensures.ok (heap_of i.program.now i.setup.now) (starts_of i.program.now i.setup.now) before b is;
    } in
    tells i c.args.self.now c.args.actor c.step-made.result c.step-made.new.self c.set.new.self c.self.view_is c.self.invariant by before after

pub returns-in-Thread-clause-safe : goal.returns-in-Thread-clause-safe
returns-in-Thread-clause-safe c certs before certified after =
    let i = c.self.inside in
    let is = is_actor i c.args.self.now c.args.actor c.self.view_is c.requires in
    let are : c.set.new.self ≡ endings_after c.args.actor i.actors.threads.items i.endings = cc in
    let by : IsMadeBy i c.args.actor c.step-made.result c.step-made.new.self c.set.new.self = record {
      is_actor = is;
      endings_are = are;
      makes = λ before b. c.step-made.ensures.ok (heap_of i.program.now i.setup.now) (starts_of i.program.now i.setup.now) before b is;
    } in
    stays_safe c.program_law.ensures.safe i c.args.self.now c.args.actor c.step-made.result c.step-made.new.self c.set.new.self c.self.view_is c.self.invariant by certs before certified after

pub invariant_of-self-in_default : goal.invariant_of-self-in_default
invariant_of-self-in_default c =
    let i = c.self.inside in
    let is = is_actor i c.args.self.now c.args.actor c.self.view_is c.requires in
    let are : i.endings ≡ endings_after c.args.actor i.actors.threads.items i.endings = cc in
    let by : IsMadeBy i c.args.actor c.step-made.result c.step-made.new.self i.endings = record {
      is_actor = is;
      endings_are = are;
      makes = λ before b. c.step-made.ensures.ok (heap_of i.program.now i.setup.now) (starts_of i.program.now i.setup.now) before b is;
    } in
    keeps i c.args.actor c.step-made.result c.is_err.result c.step-made.new.self i.endings c.self.invariant c.is_err.ensures.value c.if-is_err.false by

pub returns-in_default-clause-ok : goal.returns-in_default-clause-ok
returns-in_default-clause-ok c before after =
    let i = c.self.inside in
    let is = is_actor i c.args.self.now c.args.actor c.self.view_is c.requires in
    let are : i.endings ≡ endings_after c.args.actor i.actors.threads.items i.endings = cc in
    let by : IsMadeBy i c.args.actor c.step-made.result c.step-made.new.self i.endings = record {
      is_actor = is;
      endings_are = are;
      makes = λ before b. c.step-made.ensures.ok (heap_of i.program.now i.setup.now) (starts_of i.program.now i.setup.now) before b is;
    } in
    tells i c.args.self.now c.args.actor c.step-made.result c.step-made.new.self i.endings c.self.view_is c.self.invariant by before after

pub returns-in_default-clause-safe : goal.returns-in_default-clause-safe
returns-in_default-clause-safe c certs before certified after =
    let i = c.self.inside in
    let is = is_actor i c.args.self.now c.args.actor c.self.view_is c.requires in
    let are : i.endings ≡ endings_after c.args.actor i.actors.threads.items i.endings = cc in
    let by : IsMadeBy i c.args.actor c.step-made.result c.step-made.new.self i.endings = record {
      is_actor = is;
      endings_are = are;
      makes = λ before b. c.step-made.ensures.ok (heap_of i.program.now i.setup.now) (starts_of i.program.now i.setup.now) before b is;
    } in
    stays_safe c.program_law.ensures.safe i c.args.self.now c.args.actor c.step-made.result c.step-made.new.self i.endings c.self.view_is c.self.invariant by certs before certified after
