-- The steps of a trace, those of one line after those of the others.
use Rattle.std.proofs.Common.{◌≡◌, ◌<◌, length, reverse, take, get_or, ap, subst, ◌∙◌, arith}
use Rattle.std.proofs.Math.Seq.{take-length}
use Rattle.moves.specs.declared.actor.Actor.TheVariants as actor
use Rattle.trace_text.specs.declared.trace.Steps.{Steps}
use Rattle.replay.specs.Lists.{actors_of}
use Rattle.replay.specs.Watched.{IsWatched, IsWatchedOn}
use Rattle.std.proofs.Common.{replicate}
use Rattle.replay.proofs.Lists.{sound_list}
use Rattle.replay.proofs.TraceSteps.{same_item, steps-room, steps-made, steps-break, setup_of_trace, safe_breaks_none}
use Rattle.replay.proofs.replaying.replay.Goals as goal

-- no steps, for the places past the end of a list
abbrev none : Steps
none = record { actor = actor.Thread 0; count = 0 }

pub steps-requires-clause-room : goal.steps-requires-clause-room
steps-requires-clause-room c =
    let steps = c.args.trace.now.steps in
    let items = c.as_slice-steps-items.result.now in
    let i = c.loop-steps.steps-index in
    let few : i < length steps = subst (λ l. i < length l) c.as_slice-steps-items.ensures c.loop-steps-test.true in
    steps-room c.args.program.now c.args.trace.now i (get_or items i none) c.loop-steps.watch c.requires c.loop-steps.invariant few (same_item items steps i none c.as_slice-steps-items.ensures few)

pub returns-in-Some-clause-outcome : goal.returns-in-Some-clause-outcome
returns-in-Some-clause-outcome c =
    let steps = c.args.trace.now.steps in
    let items = c.as_slice-steps-items.result.now in
    let i = c.loop-steps.steps-index in
    let s = get_or items i none in
    let few : i < length steps = subst (λ l. i < length l) c.as_slice-steps-items.ensures c.loop-steps-test.true in
    let made = c.in-Ok.ensures c.args.program.now c.args.trace.now.setup (reverse (actors_of (take i steps))) c.loop-steps.invariant in
    steps-break c.args.program.now c.args.trace.now i s c.steps.new.self c.in-Some.broken few (same_item items steps i none c.as_slice-steps-items.ensures few)
    (subst (λ o. IsWatchedOn c.args.program.now c.args.trace.now.setup (reverse (actors_of (take i steps))) (replicate s.count s.actor) c.steps.new.self o) c.in-Some.is made)

pub returns-in-Some-clause-safe : goal.returns-in-Some-clause-safe
returns-in-Some-clause-safe c certs certified =
    let steps = c.args.trace.now.steps in
    let items = c.as_slice-steps-items.result.now in
    let i = c.loop-steps.steps-index in
    let s = get_or items i none in
    let few : i < length steps = subst (λ l. i < length l) c.as_slice-steps-items.ensures c.loop-steps-test.true in
    let made = c.in-Ok.ensures c.args.program.now c.args.trace.now.setup (reverse (actors_of (take i steps))) c.loop-steps.invariant in
    let breaks = steps-break c.args.program.now c.args.trace.now i s c.steps.new.self c.in-Some.broken few (same_item items steps i none c.as_slice-steps-items.ensures few)
    (subst (λ o. IsWatchedOn c.args.program.now c.args.trace.now.setup (reverse (actors_of (take i steps))) (replicate s.count s.actor) c.steps.new.self o) c.in-Some.is made) in
    let safe = c.setup_law.ensures c.args.program.now c.args.trace.now.setup certs (setup_of_trace c.args.program.now c.args.trace.now c.requires) c.in_ok-watch.ensures.no_fault certified in
    safe_breaks_none c.args.program.now c.args.trace.now.setup (actors_of steps) c.in-Some.broken safe breaks

pub loop-steps-preserved : goal.loop-steps-preserved
loop-steps-preserved c =
    let steps = c.args.trace.now.steps in
    let items = c.as_slice-steps-items.result.now in
    let i = c.loop-steps.steps-index in
    let s = get_or items i none in
    let few : i < length steps = subst (λ l. i < length l) c.as_slice-steps-items.ensures c.loop-steps-test.true in
    let made = c.in-Ok.ensures c.args.program.now c.args.trace.now.setup (reverse (actors_of (take i steps))) c.loop-steps.invariant in
    steps-made c.args.program.now c.args.trace.now i s c.steps.new.self few (same_item items steps i none c.as_slice-steps-items.ensures few)
    (subst (λ o. IsWatchedOn c.args.program.now c.args.trace.now.setup (reverse (actors_of (take i steps))) (replicate s.count s.actor) c.steps.new.self o) c.in_default.is made)

pub returns-in-Ok-report-clause-outcome : goal.returns-in-Ok-report-clause-outcome
returns-in-Ok-report-clause-outcome c =
    let p = c.args.program.now in
    let setup = c.args.trace.now.setup in
    let steps = c.args.trace.now.steps in
    let i = c.loop-steps.steps-index in
    let count = ap length c.as_slice-steps-items.ensures in
    let all : i ≡ length steps = omega (arith, count, c.loop-steps-test.false, c.loop-steps.auto.steps-index-end) in
    let whole : take i steps ≡ steps = ap (λ n. take n steps) all ∙ take-length steps in
    let watched = subst (λ l. IsWatched p setup (reverse (actors_of l)) c.loop-steps.watch) whole c.loop-steps.invariant in
    (sound_list p setup (actors_of steps) watched.unbroken, c.in-Ok-report.ensures p setup (reverse (actors_of steps)) watched)
