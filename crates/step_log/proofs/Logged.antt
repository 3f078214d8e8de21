-- A run that is logged, between two steps of a trace.
use Rattle.std.proofs.Common.{◌≡◌, ◌≤◌, ℕ, zero, suc, List, [], ◌∷◌, ◌++◌, Option, length, reverse, replicate, take, drop, refl, sym, ap, subst, ◌∙◌, arith, append_assoc}
use Rattle.std.specs.List.{AllByRecursion}
use Rattle.std.proofs.lemmas.List.{append-nil, reverse-append, reverse-reverse, length-reverse}
use Rattle.std.proofs.Math.Seq.{take-append_seam, drop-append_seam}
use Rattle.layout.specs.Layouts.{LaidOut}
use Rattle.moves.specs.declared.actor.Actor.{Actor}
use Rattle.moves.specs.Runs.{IsActor, AreActors}
use Rattle.program_runner.specs.Setups.{starts_of}
use Rattle.stepping.specs.Ends.{IsStepOrNone}
use Rattle.stepping.specs.declared.happening.MadeStep.{MadeStep}
use Rattle.trace_text.specs.declared.trace.Setup.{Setup}
use Rattle.trace_text.specs.declared.trace.Steps.{Steps}
use Rattle.replay.specs.Lists.{actors_of}
use Rattle.replay.specs.Runs.{heap_of, program_machine}
use Rattle.replay.specs.Worlds.{World, IsAfter, IsStepAfter, run_of}
use Rattle.step_log.specs.declared.log.LogStep.{LogStep}
use Rattle.step_log.specs.declared.recording.Recorder.{Recorder}
use Rattle.step_log.specs.declared.upcoming.Upcoming.{Upcoming}
use Rattle.step_log.specs.Recorded.{IsRecorded}
use Rattle.step_log.specs.Logs.{Log, IsAt}
use Rattle.step_log.specs.Steps.{AreSteps, NoStep, Further, happening_of}
use Rattle.step_log.specs.Upcoming.{actors_in}

-- ---- actors

-- some steps of one actor before others
are_actors_more : (threads count : ℕ) (actor : Actor) (actors : List Actor) → IsActor threads actor → AreActors threads actors → AreActors threads (replicate count actor ++ actors)
are_actors_more threads zero actor actors is are = are
are_actors_more threads (suc count) actor actors is are = (is, are_actors_more threads count actor actors is are)

-- those of a trace are of its run
pub are_actors : (threads : ℕ) (steps : List Steps) → AllByRecursion (λ (s : Steps). IsActor threads s.actor) steps → AreActors threads (actors_of steps)
are_actors threads [] all = tt
are_actors threads (s ∷ steps) all = are_actors_more threads s.count s.actor (actors_of steps) (all.0) (are_actors threads steps all.1)

-- ---- one step

-- the step of an actor is recorded
pub recorded : (p : LaidOut) (setup : Setup) (first before : List Actor) (r v : Recorder) (actor : Actor) (step : LogStep) (did : Option MadeStep) → IsRecorded p setup first before r → step.actor ≡ actor
    → step.happening ≡ happening_of did → (v.world.program ≡ r.world.program) × (v.world.setup ≡ r.world.setup) → IsStepAfter r.world before actor did × IsAfter v.world (actor ∷ before)
    → v.steps ≡ r.steps ++ step ∷ [] → IsRecorded p setup first (actor ∷ before) v
recorded p setup first before r v actor step did is of happened same both more =
    let Made : LaidOut → Setup → Type 0 = λ q begun. IsStepOrNone (heap_of q begun) program_machine (starts_of q begun) (run_of q begun before) actor did in
    let made : Made p setup = subst (λ q. Made q setup) is.program (subst (λ begun. Made r.world.program begun) is.setup_is both.0) in
    let named = subst (λ (a : Actor). IsStepOrNone (heap_of p setup) program_machine (starts_of p setup) (run_of p setup before) a did) (sym of) made in
    record {
      program = same.0 ∙ is.program;
      setup_is = same.1 ∙ is.setup_is;
      afterwards = both.1;
      steps = subst (λ l. AreSteps p setup first (actor ∷ before) l) (sym more)
          (subst (λ (a : Actor). AreSteps p setup first (a ∷ before) (r.steps ++ step ∷ [])) of (Further before r.steps step did is.steps named happened));
    }

-- ---- the next steps

-- after this many of the steps of some actors, which begin at a recorder: they are recorded, and those to come are the others
pub record IsGoingOn (start : Recorder) (actors : List Actor) (count : ℕ) (r : Recorder) (u : Upcoming) : Type 0 where
  pub made : List Actor
  pub count_is : length made ≡ count
  pub whole : reverse made ++ actors_in u ≡ actors
  pub are_actors : AreActors (length r.world.setup.starts) (actors_in u)
  pub before : r.before ≡ start.before
  pub recorded : (p : LaidOut) (setup : Setup) (first : List Actor) → IsRecorded p setup first first start → IsRecorded p setup first (made ++ first) r

-- with one step more
pub goes_on : (start : Recorder) (actors : List Actor) (count : ℕ) (r s : Recorder) (u v : Upcoming) (actor : Actor) → IsGoingOn start actors count r u → actors_in u ≡ actor ∷ actors_in v
    → s.world.setup ≡ r.world.setup → s.before ≡ r.before → ((p : LaidOut) (setup : Setup) (first before : List Actor) → IsRecorded p setup first before r → IsRecorded p setup first (actor ∷ before) s)
    → IsGoingOn start actors (suc count) s v
goes_on start actors count r s u v actor is next same alike more = record {
  made = actor ∷ is.made;
  count_is = ap suc is.count_is;
  whole =
      ap (λ l. l ++ actors_in v) (reverse-append (actor ∷ []) is.made) ∙ append_assoc (reverse is.made) (actor ∷ []) (actors_in v)
      ∙ ap (λ l. reverse is.made ++ l) (sym next) ∙ is.whole;
  are_actors = subst (λ (setup : Setup). AreActors (length setup.starts) (actors_in v)) (sym same) ((subst (AreActors (length r.world.setup.starts)) next is.are_actors).1);
  before = alike ∙ is.before;
  recorded = λ p setup first begun. more p setup first (is.made ++ first) (is.recorded p setup first begun);
}

-- the actors to come after one of them are of the same world
pub still_actors : (r s : Recorder) (u v : Upcoming) (actor : Actor) → AreActors (length r.world.setup.starts) (actors_in u) → actors_in u ≡ actor ∷ actors_in v → s.world.setup ≡ r.world.setup
    → AreActors (length s.world.setup.starts) (actors_in v)
still_actors r s u v actor are next same = subst (λ (setup : Setup). AreActors (length setup.starts) (actors_in v)) (sym same) ((subst (AreActors (length r.world.setup.starts)) next are).1)

-- the first of a list and the others, where the list is no longer
take-all : {A : Type 0} (xs : List A) (n : ℕ) → length xs ≤ n → take n xs ≡ xs
take-all [] zero few = refl
take-all [] (suc n) few = refl
take-all (x ∷ xs) zero few = absurd (omega (arith, few))
take-all (x ∷ xs) (suc n) few = ap (λ l. x ∷ l) (take-all xs n (omega (arith, few)))

drop-all : {A : Type 0} (xs : List A) (n : ℕ) → length xs ≤ n → drop n xs ≡ []
drop-all [] zero few = refl
drop-all [] (suc n) few = refl
drop-all (x ∷ xs) zero few = absurd (omega (arith, few))
drop-all (x ∷ xs) (suc n) few = drop-all xs n (omega (arith, few))

-- what was asked for: the first of the actors are made, and the others are to come
pub record IsMadeOf (start : Recorder) (actors : List Actor) (count : ℕ) (r : Recorder) (u : Upcoming) : Type 0 where
  pub left : actors_in u ≡ drop count actors
  pub recorded : (p : LaidOut) (setup : Setup) (first : List Actor) → IsRecorded p setup first first start → IsRecorded p setup first (reverse (take count actors) ++ first) r

-- so it is where these are the first ones
made_first : (start : Recorder) (actors : List Actor) (count most : ℕ) (r : Recorder) (u : Upcoming) → (is : IsGoingOn start actors count r u) → reverse is.made ≡ take most actors
    → actors_in u ≡ drop most actors → IsMadeOf start actors most r u
made_first start actors count most r u is front rest = record {
  left = rest;
  recorded = λ p setup first begun.
      subst (λ l. IsRecorded p setup first (l ++ first) r) (sym (reverse-reverse is.made) ∙ ap reverse front) (is.recorded p setup first begun);
}

-- as many steps were made as were asked for
pub made_all_asked : (start : Recorder) (actors : List Actor) (count : ℕ) (r : Recorder) (u : Upcoming) → IsGoingOn start actors count r u → IsMadeOf start actors count r u
made_all_asked start actors count r u is =
    let many : length (reverse is.made) ≡ count = length-reverse is.made ∙ is.count_is in
    made_first start actors count count r u is
    (sym (take-append_seam (reverse is.made) (actors_in u)) ∙ ap (λ n. take n (reverse is.made ++ actors_in u)) many ∙ ap (take count) is.whole)
    (sym (drop-append_seam (reverse is.made) (actors_in u)) ∙ ap (λ n. drop n (reverse is.made ++ actors_in u)) many ∙ ap (drop count) is.whole)

-- all steps were made that there were
pub made_all_left : (start : Recorder) (actors : List Actor) (count most : ℕ) (r : Recorder) (u : Upcoming) → IsGoingOn start actors count r u → actors_in u ≡ [] → count ≤ most → IsMadeOf start actors most r u
made_all_left start actors count most r u is none few =
    let whole : reverse is.made ≡ actors = sym (append-nil (reverse is.made)) ∙ ap (λ l. reverse is.made ++ l) (sym none) ∙ is.whole in
    let short : length actors ≤ most = subst (λ l. length l ≤ most) whole (omega (arith, length-reverse is.made, is.count_is, few)) in
    made_first start actors count most r u is (whole ∙ sym (take-all actors most short)) (none ∙ sym (drop-all actors most short))

-- ---- logs

-- a recorder that has forgotten its steps is before the next one
pub forgotten : (p : LaidOut) (setup : Setup) (before : List Actor) (log : Log) (r : Recorder) → r.world ≡ log.world → r.steps ≡ [] → IsAt p setup before log → IsRecorded p setup before before r
forgotten p setup before log r same none is = record {
  program = ap (λ (w : World). w.program) same ∙ is.program;
  setup_is = ap (λ (w : World). w.setup) same ∙ is.setup_is;
  afterwards = subst (λ (w : World). IsAfter w before) (sym same) is.afterwards;
  steps = subst (λ l. AreSteps p setup before before l) (sym none) NoStep;
}

-- what is recorded is what a log has
pub logged : (p : LaidOut) (setup : Setup) (first before left : List Actor) (r : Recorder) → IsRecorded p setup first before r
    → IsAt p setup before (record { world = r.world; before = r.before; steps = r.steps; left = left }) × AreSteps p setup first before r.steps
logged p setup first before left r is = (record { program = is.program; setup_is = is.setup_is; afterwards = is.afterwards }, is.steps)
