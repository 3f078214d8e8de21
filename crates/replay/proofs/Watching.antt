-- A world that is watched: one step more, and several steps of one actor.
use Rattle.std.proofs.Common.{◌≡◌, ◌<◌, ◌+◌, ◌^◌, ℕ, zero, suc, cond, List, [], ◌∷◌, ◌++◌, length, reverse, replicate, Option, Some, None, IfSome, refl, sym, ap, subst, ◌∙◌, arith, append_assoc, length-append, add-one}
use Rattle.std.proofs.lemmas.List.{reverse-append, replicate-append-replicate, length-replicate}
use Rattle.moves.specs.Runs.{IsActor}
use Rattle.pools.specs.Heap.{cells}
use Rattle.layout.specs.Layouts.{LaidOut}
use Rattle.colours.specs.declared.place.Place.TheVariants.{Posted}
use Rattle.colours.specs.Runs.{word_after}
use Rattle.runs.specs.ModuleRuns.{IsModuleRun, heap_of as events_of}
use Rattle.runs.specs.Broken.{IsBroken}
use Rattle.replay.specs.Runs.{program_machine, heap_of}
use Rattle.moves.specs.declared.actor.Actor.{Actor}
use Rattle.trace_text.specs.declared.trace.Setup.{Setup}
use Rattle.stepping.specs.declared.cover.Cover.{Cover}
use Rattle.stepping.specs.declared.happening.MadeStep.{MadeStep}
use Rattle.stepping.specs.declared.walk.Walk.{Walk}
use Rattle.stepping.specs.Covers.{IsOver, IsCoverAfter, IsCovered}
use Rattle.stepping.specs.Ends.{IsStepOrNone}
use Rattle.replay.specs.declared.thread_outcome.ThreadOutcome.{ThreadOutcome}
use Rattle.program_runner.specs.Setups.{starts_of}
use Rattle.replay.specs.ThreadEnds.{AreEndsOf, AreEndsAfter}
use Rattle.replay.specs.Worlds.{World, run_of, IsAfter, IsStepAfter, IsBrokenWorld, IsCoveredWorld, IsOverIn}
use Rattle.replay.specs.declared.outcome.BreakCause.{BreakCause}
use Rattle.replay.specs.declared.watch.Watch.{Watch}
use Rattle.replay.specs.Outcomes.{Reports}
use Rattle.replay.specs.Watched.{IsUnbroken, IsWatched, IsStepped, IsCauseAfter, HasRoomFor, claims_cell, frees_cell}
use Rattle.replay.proofs.StepsTaken.{claims-more, frees-more, claims-short, frees-short}

-- ---- one step

-- what is true after each of some actors is true after all of them
pub unbroken_now : (p : LaidOut) (setup : Setup) (before : List Actor) → IsUnbroken p setup before → ¬ IsBroken (heap_of p setup) program_machine (starts_of p setup) (run_of p setup before)
unbroken_now p setup [] unbroken = unbroken
unbroken_now p setup (actor ∷ before) unbroken = unbroken.0

-- a world that made one step tells how it breaks the run
pub cause_is : (p : LaidOut) (setup : Setup) (before : List Actor) (actor : Actor) (made : Option MadeStep) (w : World) (cover : Cover) (o : Option BreakCause) → w.program ≡ p → w.setup ≡ setup
    → IsAfter w (actor ∷ before) → IsStepOrNone (heap_of p setup) program_machine (starts_of p setup) (run_of p setup before) actor made → IsCovered (heap_of p setup) program_machine (starts_of p setup) (run_of p setup before) cover
    → IsUnbroken p setup before
    → ((before : List Actor) (actor : Actor) → IsAfter w (actor ∷ before) → IsStepAfter w before actor made → IsCoveredWorld w before cover → ¬ IsBrokenWorld w before → IsCauseAfter w.program w.setup (actor ∷ before) o)
    → IsCauseAfter p setup (actor ∷ before) o
cause_is p setup before actor made w cover o same_program same_setup afterwards is covered unbroken tells =
    let Tells : LaidOut → Setup → Type 0 = λ q begun. IsStepOrNone (heap_of q begun) program_machine (starts_of q begun) (run_of q begun before) actor made
    → IsCovered (heap_of q begun) program_machine (starts_of q begun) (run_of q begun before) cover
    → ¬ IsBroken (heap_of q begun) program_machine (starts_of q begun) (run_of q begun before) → IsCauseAfter q begun (actor ∷ before) o in
    let here : Tells w.program w.setup = λ made_is known now. tells before actor afterwards made_is known now in
    let there : Tells p setup = subst (λ q. Tells q setup) same_program (subst (λ begun. Tells w.program begun) same_setup here) in
    there is covered (unbroken_now p setup before unbroken)

-- and has a cover after it
pub cover_is : (p : LaidOut) (setup : Setup) (before : List Actor) (actor : Actor) (made : Option MadeStep) (w : World) (cover after : Cover) → w.program ≡ p → w.setup ≡ setup
    → IsAfter w (actor ∷ before) → IsStepOrNone (heap_of p setup) program_machine (starts_of p setup) (run_of p setup before) actor made → IsCovered (heap_of p setup) program_machine (starts_of p setup) (run_of p setup before) cover
    → ((before : List Actor) (actor : Actor) → IsAfter w (actor ∷ before) → IsStepAfter w before actor made → IsCoveredWorld w before cover → IsCoveredWorld w (actor ∷ before) after)
    → IsCovered (heap_of p setup) program_machine (starts_of p setup) (run_of p setup (actor ∷ before)) after
cover_is p setup before actor made w cover after same_program same_setup afterwards is covered keeps =
    let Keeps : LaidOut → Setup → Type 0 = λ q begun. IsStepOrNone (heap_of q begun) program_machine (starts_of q begun) (run_of q begun before) actor made
    → IsCovered (heap_of q begun) program_machine (starts_of q begun) (run_of q begun before) cover
    → IsCovered (heap_of q begun) program_machine (starts_of q begun) (run_of q begun (actor ∷ before)) after in
    let here : Keeps w.program w.setup = λ made_is known. keeps before actor afterwards made_is known in
    let there : Keeps p setup = subst (λ q. Keeps q setup) same_program (subst (λ begun. Keeps w.program begun) same_setup here) in
    there is covered

-- its run is a run
pub run_is : (p : LaidOut) (setup : Setup) (actors : List Actor) (w : World) → w.program ≡ p → w.setup ≡ setup → IsAfter w actors
    → IsModuleRun (heap_of p setup) program_machine (starts_of p setup) (run_of p setup actors)
run_is p setup actors w same_program same_setup afterwards =
    subst (λ q. IsModuleRun (heap_of q setup) program_machine (starts_of q setup) (run_of q setup actors)) same_program
    (subst (λ begun. IsModuleRun (heap_of w.program begun) program_machine (starts_of w.program begun) (run_of w.program begun actors)) same_setup afterwards.ends.is_run)

-- a step that was counted, and breaks nothing
pub goes_on : (p : LaidOut) (setup : Setup) (before : List Actor) (actor : Actor) (made : Option MadeStep) (w v : Watch) → IsStepped p setup before actor made w → v.world ≡ w.world
    → v.steps ≡ w.steps + 1 → v.claims ≡ w.claims + cond (claims_cell made) 1 0 → v.frees ≡ w.frees + cond (frees_cell made) 1 0
    → ¬ IsBroken (heap_of p setup) program_machine (starts_of p setup) (run_of p setup (actor ∷ before))
    → IsCovered (heap_of p setup) program_machine (starts_of p setup) (run_of p setup (actor ∷ before)) v.cover → IsWatched p setup (actor ∷ before) v
goes_on p setup before actor made w v is same steps claims frees unbroken covered = record {
  program = ap (λ (x : World). x.program) same ∙ is.program;
  setup_is = ap (λ (x : World). x.setup) same ∙ is.setup_is;
  afterwards = subst (λ (x : World). IsAfter x (actor ∷ before)) (sym same) is.afterwards;
  unbroken = (unbroken, is.unbroken);
  steps = omega (arith, steps, is.steps);
  claims_are = claims ∙ claims-more (heap_of p setup) program_machine (starts_of p setup) actor before made w.claims is.made_is is.claims_are;
  frees_are = frees ∙ frees-more (heap_of p setup) program_machine (starts_of p setup) actor before made w.frees is.made_is is.frees_are;
  covered = covered;
}

-- what a world with room has counted is small
pub counts_are_small : (steps : ℕ) (w : Watch) → HasRoomFor steps w → (w.steps < 2 ^ 63) × (w.claims < 2 ^ 63) × (w.frees < 2 ^ 63)
counts_are_small steps w (p, setup, before, is, few) =
    let short = claims-short (heap_of p setup) program_machine (starts_of p setup) before in
    let short_too = frees-short (heap_of p setup) program_machine (starts_of p setup) before in
    (omega (arith, is.steps, few), omega (arith, is.claims_are, short, few), omega (arith, is.frees_are, short_too, few))

-- the cells of its cover are cells of the world, after a step as well
pub over_after : (steps : ℕ) (w : Watch) (world : World) → HasRoomFor steps w → (world.program ≡ w.world.program) × (world.setup ≡ w.world.setup) → IsOverIn world w.cover
over_after steps w world (p, setup, before, is, few) same =
    let Over : LaidOut → Setup → Type 0 = λ q begun. IfSome w.cover.walk (IsOver (cells (heap_of q begun))) in
    subst (λ q. Over q world.setup) (sym (same.0 ∙ is.program)) (subst (λ begun. Over p begun) (sym (same.1 ∙ is.setup_is)) (known w.cover.walk is.covered))
  where
    known : (o : Option Walk) → IfSome o (IsCoverAfter (heap_of p setup) program_machine (starts_of p setup) (run_of p setup before)) → IfSome o (IsOver (cells (heap_of p setup)))
    known None covered = tt
    known (Some walk) covered = covered.over

-- ---- several steps of one actor

-- one actor many times, in either order
reverse-replicate : {A : Type 0} (n : ℕ) (x : A) → reverse (replicate n x) ≡ replicate n x
reverse-replicate zero x = refl
reverse-replicate (suc n) x =
    reverse-append (x ∷ []) (replicate n x) ∙ ap (λ l. l ++ x ∷ []) (reverse-replicate n x) ∙ replicate-append-replicate n 1 x ∙ ap (λ k. replicate k x) (add-one n)

-- some steps of one actor, made after others and before more of that actor
pub replicated : {A : Type 0} (done left count : ℕ) (x : A) (before rest : List A) → done + suc left ≡ count → reverse (replicate done x ++ before) ++ (x ∷ (replicate left x ++ rest)) ≡ reverse before ++ (replicate count x ++ rest)
replicated done left count x before rest is =
    ap (λ l. l ++ (x ∷ (replicate left x ++ rest))) (reverse-append (replicate done x) before ∙ ap (λ l. reverse before ++ l) (reverse-replicate done x))
    ∙ append_assoc (reverse before) (replicate done x) (x ∷ (replicate left x ++ rest))
    ∙ ap (λ l. reverse before ++ l) (sym (append_assoc (replicate done x) (replicate (suc left) x) rest) ∙ ap (λ l. l ++ rest) (replicate-append-replicate done (suc left) x ∙ ap (λ n. replicate n x) is))

-- all of them were made
pub all_replicated : (p : LaidOut) (setup : Setup) (before : List Actor) (count : ℕ) (actor : Actor) (w : Watch) → IsWatched p setup (replicate count actor ++ before) w → IsWatched p setup (reverse (replicate count actor) ++ before) w
all_replicated p setup before count actor w is = subst (λ l. IsWatched p setup (l ++ before) w) (sym (reverse-replicate count actor)) is

-- the actor of one world is one of another with this setup
pub actor_of_both : (p : LaidOut) (setup : Setup) (before after : List Actor) (actor : Actor) (w v : Watch) → IsWatched p setup before w → IsWatched p setup after v → IsActor (length w.world.setup.starts) actor → IsActor (length v.world.setup.starts) actor
actor_of_both p setup before after actor w v is is_too actor_is = subst (λ (begun : Setup). IsActor (length begun.starts) actor) (is.setup_is ∙ sym is_too.setup_is) actor_is

-- there is room for one more of them
pub room_for_more : (p : LaidOut) (setup : Setup) (before : List Actor) (count done : ℕ) (actor : Actor) (v : Watch) → length before + count < 2 ^ 63 → done < count → IsWatched p setup (replicate done actor ++ before) v → HasRoomFor 1 v
room_for_more p setup before count done actor v few more is =
    (p, setup, replicate done actor ++ before, is, omega (arith, few, more, length-append (replicate done actor) before, length-replicate done actor))

-- ---- where the actors are

-- what a world tells of its end
pub reports : (p : LaidOut) (setup : Setup) (before : List Actor) (w : Watch) (ends : List ThreadOutcome) (posted : ℕ) → IsWatched p setup before w → AreEndsOf w.world before ends → posted ≡ w.world.shared.posted
    → Reports p setup before (record { threads = ends; steps = w.steps; claims = w.claims; frees = w.frees; posted = posted })
reports p setup before w ends posted is ends_are posted_is =
    let ThreadState : LaidOut → Setup → Type 0 = λ q begun. AreEndsAfter q begun (run_of q begun before) ends in
    let thread_state : ThreadState p setup = subst (λ q. ThreadState q setup) is.program (subst (λ begun. ThreadState w.world.program begun) is.setup_is ends_are) in
    let Posts : LaidOut → Setup → Type 0 = λ q begun. posted ≡ word_after (heap_of q begun) (events_of (run_of q begun before)) Posted in
    let posts : Posts p setup = subst (λ q. Posts q setup) is.program (subst (λ begun. Posts w.world.program begun) is.setup_is (posted_is ∙ is.afterwards.ends.ends.posted)) in
    record {
      one_each = thread_state.one_each;
      threads = thread_state.each;
      steps_are = is.steps;
      claims_are = is.claims_are;
      frees_are = is.frees_are;
      posted_is = posts;
    }

-- a world that made one step more, which is not counted so far
pub stepped : (p : LaidOut) (setup : Setup) (before : List Actor) (actor : Actor) (made : Option MadeStep) (w : Watch) (world : World) → IsWatched p setup before w → (world.program ≡ w.world.program) × (world.setup ≡ w.world.setup)
    → IsStepAfter w.world before actor made × IsAfter world (actor ∷ before) → IsStepped p setup before actor made (record w { world = world })
stepped p setup before actor made w world is same both =
    let Made : LaidOut → Setup → Type 0 = λ q begun. IsStepOrNone (heap_of q begun) program_machine (starts_of q begun) (run_of q begun before) actor made in
    let made_is : Made p setup = subst (λ q. Made q setup) is.program (subst (λ begun. Made w.world.program begun) is.setup_is both.0) in
    record {
      program = same.0 ∙ is.program;
      setup_is = same.1 ∙ is.setup_is;
      made_is = made_is;
      afterwards = both.1;
      unbroken = is.unbroken;
      steps = is.steps;
      claims_are = is.claims_are;
      frees_are = is.frees_are;
      covered = is.covered;
    }
