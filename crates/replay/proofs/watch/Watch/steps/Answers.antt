-- Some steps of one actor, one after the other.
use Rattle.std.proofs.Common.{◌≡◌, ◌+◌, ◌-◌, suc, [], ◌∷◌, ◌++◌, replicate, sym, subst, arith, add-one}
use Rattle.replay.specs.Lists.{IsFirstBreak}
use Rattle.replay.specs.Watched.{IsWatched, IsWatchedOn}
use Rattle.replay.proofs.Watching.{replicated, all_replicated, actor_of_both, room_for_more}
use Rattle.replay.proofs.watch.Watch.steps.Goals as goal

pub step-requires-clause-actor : goal.step-requires-clause-actor
step-requires-clause-actor c =
    let room = c.requires.room in
    actor_of_both room.0 room.1 room.2 (replicate c.loop-step._step c.args.actor ++ room.2) c.args.actor c.args.self.now c.loop-step.self room.3 (c.loop-step.invariant room.0 room.1 room.2 room.3) c.requires.actor

pub step-requires-clause-room : goal.step-requires-clause-room
step-requires-clause-room c =
    let room = c.requires.room in
    room_for_more room.0 room.1 room.2 c.args.count c.loop-step._step c.args.actor c.loop-step.self room.4 c.loop-step-test.true (c.loop-step.invariant room.0 room.1 room.2 room.3)

pub returns-in-Some : goal.returns-in-Some
returns-in-Some c p setup before is rest =
    let actor = c.args.actor in
    let i = c.loop-step._step in
    let left = c.args.count - suc i in
    let made = c.in_ok-broken.ensures p setup (replicate i actor ++ before) (c.loop-step.invariant p setup before is) in
    let breaks = subst (λ o. IsWatchedOn p setup (replicate i actor ++ before) (actor ∷ []) c.step.new.self o) c.in-Some.is made in
    let whole : i + suc left ≡ c.args.count = omega (arith, c.loop-step-test.true) in
    subst (λ l. IsFirstBreak p setup l c.in-Some.broken) (replicated i left c.args.count actor before rest whole) (breaks (replicate left actor ++ rest))

pub loop-step-preserved : goal.loop-step-preserved
loop-step-preserved c p setup before is =
    let actor = c.args.actor in
    let i = c.loop-step._step in
    let made = c.in_ok-broken.ensures p setup (replicate i actor ++ before) (c.loop-step.invariant p setup before is) in
    let more : IsWatched p setup (replicate (suc i) actor ++ before) c.step.new.self = subst (λ o. IsWatchedOn p setup (replicate i actor ++ before) (actor ∷ []) c.step.new.self o) c.in_default.is made in
    subst (λ n. IsWatched p setup (replicate n actor ++ before) c.step.new.self) (sym (add-one i)) more

pub returns : goal.returns
returns c p setup before is =
    let actor = c.args.actor in
    let all : c.loop-step._step ≡ c.args.count = omega (arith, c.loop-step-test.false) in
    all_replicated p setup before c.args.count actor c.loop-step.self (subst (λ n. IsWatched p setup (replicate n actor ++ before) c.loop-step.self) all (c.loop-step.invariant p setup before is))
