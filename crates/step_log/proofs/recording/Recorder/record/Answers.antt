-- The next steps, one after the other, as many as were asked for.
use Rattle.std.proofs.Common.{◌≡◌, [], length, refl, sym, ◌∙◌, subst, arith, add-one}
use Rattle.moves.specs.Runs.{AreActors}
use Rattle.step_log.specs.Upcoming.{actors_in}
use Rattle.step_log.proofs.Logged.{IsGoingOn, IsMadeOf, goes_on, still_actors, made_all_asked, made_all_left}
use Rattle.step_log.proofs.recording.Recorder.record.Goals as goal

pub loop-step-init : goal.loop-step-init
loop-step-init c = record { made = []; count_is = refl; whole = refl; are_actors = c.requires; before = refl; recorded = λ p setup first is. is }

pub step-requires : goal.step-requires
step-requires c = (subst (AreActors (length c.loop-step.self.world.setup.starts)) c.in-Some.ensures c.loop-step.invariant.are_actors).0

pub returns-in_err-step-clause-are_actors : goal.returns-in_err-step-clause-are_actors
returns-in_err-step-clause-are_actors c =
    still_actors c.loop-step.self c.step.new.self c.loop-step.upcoming c.next.new.self c.in-Some.actor c.loop-step.invariant.are_actors c.in-Some.ensures c.step.ensures.same

pub loop-step-preserved : goal.loop-step-preserved
loop-step-preserved c =
    let start = c.args.self.now in
    let actors = actors_in c.args.upcoming.now in
    let i = c.loop-step._step in
    subst (λ n. IsGoingOn start actors n c.step.new.self c.next.new.self) (sym (add-one i))
    (goes_on start actors i c.loop-step.self c.step.new.self c.loop-step.upcoming c.next.new.self c.in-Some.actor c.loop-step.invariant c.in-Some.ensures c.step.ensures.same c.step.ensures.before c.in_ok-step.ensures.made)

-- ---- all were made that there were

pub returns-in_default-clause-are_actors : goal.returns-in_default-clause-are_actors
returns-in_default-clause-are_actors c = subst (AreActors (length c.loop-step.self.world.setup.starts)) (sym c.in_default.ensures.1) tt

pub all_left : (c : goal.In_default) → IsMadeOf c.args.self.now (actors_in c.args.upcoming.now) c.args.count c.loop-step.self c.loop-step.upcoming
all_left c =
    made_all_left c.args.self.now (actors_in c.args.upcoming.now) c.loop-step._step c.args.count c.loop-step.self c.loop-step.upcoming c.loop-step.invariant c.in_default.ensures.0 (omega (arith, c.loop-step-test.true))

pub returns-in_default-clause-left : goal.returns-in_default-clause-left
returns-in_default-clause-left c = c.in_default.ensures.1 ∙ sym c.in_default.ensures.0 ∙ (all_left c).left

pub returns-in_default-clause-made : goal.returns-in_default-clause-made
returns-in_default-clause-made c = (all_left c).recorded

-- ---- all were made that were asked for

pub all_asked : (c : goal.After-loop-step) → IsMadeOf c.args.self.now (actors_in c.args.upcoming.now) c.args.count c.loop-step.self c.loop-step.upcoming
all_asked c =
    let start = c.args.self.now in
    let actors = actors_in c.args.upcoming.now in
    let all : c.loop-step._step ≡ c.args.count = omega (arith, c.loop-step-test.false) in
    subst (λ n. IsMadeOf start actors n c.loop-step.self c.loop-step.upcoming) all
    (made_all_asked start actors c.loop-step._step c.loop-step.self c.loop-step.upcoming c.loop-step.invariant)

pub returns-clause-are_actors : goal.returns-clause-are_actors
returns-clause-are_actors c = c.loop-step.invariant.are_actors

pub returns-clause-left : goal.returns-clause-left
returns-clause-left c = (all_asked c).left

pub returns-clause-made : goal.returns-clause-made
returns-clause-made c = (all_asked c).recorded

pub returns-clause-before : goal.returns-clause-before
returns-clause-before c = c.loop-step.invariant.before
