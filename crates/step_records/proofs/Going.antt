-- A world and the record of its run, one step after another.
use Rattle.std.proofs.Common.{◌≡◌, ◌≤◌, ◌-◌, ◌+◌, ℕ, zero, suc, List, [], ◌∷◌, ◌++◌, length, replicate, reverse, take, drop, Option, Some, None, refl, sym, ap, ◌∙◌, subst, add-one, arith}
use Rattle.std.specs.List.{AllByRecursion}
use Rattle.std.proofs.lemmas.List.{length-drop, reverse-append, take_all}
use Rattle.layout.specs.Layouts.{LaidOut}
use Rattle.moves.specs.declared.actor.Actor.{Actor}
use Rattle.moves.specs.Runs.{IsActor, AreActors, run_by, next_by, with_next}
use Rattle.program_runner.specs.Heaps.{heap_of}
use Rattle.program_runner.specs.Setups.{starts_of}
use Rattle.program_runner.specs.Threads.{program_machine}
use Rattle.replay.specs.Lists.{actors_of, run_at}
use Rattle.replay.specs.Named.{IsToldWith}
use Rattle.replay.specs.Worlds.{World, IsAfter, run_of}
use Rattle.runs.specs.Machine.{WordValue}
use Rattle.runs.specs.ModuleRuns.{Happening, heap_of as events_of}
use Rattle.stepping.specs.declared.happening.MadeStep.{MadeStep}
use Rattle.step_log.specs.Upcoming.{actors_in}
use Rattle.step_log.specs.declared.upcoming.Upcoming.{Upcoming}
use Rattle.trace_text.specs.declared.trace.Setup.{Setup}
use Rattle.trace_text.specs.declared.trace.Steps.{Steps}
use Rattle.trace_text.specs.declared.trace.Trace.{Trace}
use Rattle.step_records.specs.Named.{TellsNext}
use Rattle.step_records.specs.Recorded.{IsRecordOf, IsRecordedTo}
use Rattle.step_records.specs.declared.recording.RecordedWorld.{RecordedWorld}
use Rattle.step_records.proofs.Saying.{no_bytes}

-- ---- runs

no_actors : (p : LaidOut) (setup : Setup) → run_of p setup [] ≡ []
unfolding run_by
no_actors p setup = refl

-- what an actor does next after a world
abbrev pub next : World → (before : List Actor) → Actor → Option Happening
next w before actor = next_by (heap_of w.program w.setup) program_machine (starts_of w.program w.setup) (run_of w.program w.setup before) actor

run_more : (w : World) (before : List Actor) (actor : Actor) → run_of w.program w.setup (actor ∷ before) ≡ with_next (next w before actor) (run_of w.program w.setup before)
unfolding run_by
run_more w before actor = refl

-- it is what is told of the world
pub next_told : (w : World) (before : List Actor) (actor : Actor) (roots : List WordValue) (made : Option MadeStep) → IsToldWith w before actor roots made → TellsNext roots made (next w before actor)
next_told w before actor roots None tells = tells
next_told w before actor roots (Some step) tells = tells

-- ---- one step

-- a world before its first step has the record of no step
pub begun : (p : LaidOut) (setup : Setup) (r : RecordedWorld) → r.world.program ≡ p → r.world.setup ≡ setup → IsAfter r.world [] → r.bytes.items ≡ [] → IsRecordedTo p setup [] r
begun p setup r program setup_is after none = record {
  program = program;
  setup_is = setup_is;
  afterwards = after;
  recorded = subst (λ run. IsRecordOf (events_of run) r.bytes.items) (sym (no_actors p setup)) (no_bytes r.bytes.items none);
}

-- the record as one of the run of the world
pub here : (p : LaidOut) (setup : Setup) (before : List Actor) (r : RecordedWorld) → IsRecordedTo p setup before r → IsRecordOf (events_of (run_of r.world.program r.world.setup before)) r.bytes.items
here p setup before r is =
    subst (λ q. IsRecordOf (events_of (run_of q r.world.setup before)) r.bytes.items) (sym is.program)
    (subst (λ s. IsRecordOf (events_of (run_of p s before)) r.bytes.items) (sym is.setup_is) is.recorded)

-- with the next step of an actor
pub stepped : (p : LaidOut) (setup : Setup) (before : List Actor) (actor : Actor) (r s : RecordedWorld) → IsRecordedTo p setup before r
    → (s.world.program ≡ r.world.program) × (s.world.setup ≡ r.world.setup) → IsAfter s.world (actor ∷ before)
    → IsRecordOf (events_of (with_next (next r.world before actor) (run_of r.world.program r.world.setup before))) s.bytes.items → IsRecordedTo p setup (actor ∷ before) s
stepped p setup before actor r s is same after of =
    let own : IsRecordOf (events_of (run_of r.world.program r.world.setup (actor ∷ before))) s.bytes.items =
    subst (λ run. IsRecordOf (events_of run) s.bytes.items) (sym (run_more r.world before actor)) of in
    record {
      program = same.0 ∙ is.program;
      setup_is = same.1 ∙ is.setup_is;
      afterwards = after;
      recorded = subst (λ b. IsRecordOf (events_of (run_of p b (actor ∷ before))) s.bytes.items) is.setup_is
          (subst (λ q. IsRecordOf (events_of (run_of q r.world.setup (actor ∷ before))) s.bytes.items) is.program own);
    }

-- ---- the actors of a trace

-- some steps of one actor before others
more_actors : (threads count : ℕ) (actor : Actor) (actors : List Actor) → IsActor threads actor → AreActors threads actors → AreActors threads (replicate count actor ++ actors)
more_actors threads zero actor actors is are = are
more_actors threads (suc count) actor actors is are = (is, more_actors threads count actor actors is are)

-- those of a trace are of its run
are_actors : (threads : ℕ) (steps : List Steps) → AllByRecursion (λ (s : Steps). IsActor threads s.actor) steps → AreActors threads (actors_of steps)
are_actors threads [] all = tt
are_actors threads (s ∷ steps) all = more_actors threads s.count s.actor (actors_of steps) (all.0) (are_actors threads steps all.1)

-- the first of a list, and one more
one_taken : (n : ℕ) (xs : List Actor) (x : Actor) (rest : List Actor) → drop n xs ≡ x ∷ rest → (take (suc n) xs ≡ take n xs ++ x ∷ []) × (drop (suc n) xs ≡ rest)
one_taken zero [] x rest e = absurd cc
one_taken zero (y ∷ xs) x rest e =
    let first : y ≡ x = cc in
    let others : xs ≡ rest = cc in
    (ap (λ z. z ∷ []) first, others)
one_taken (suc n) [] x rest e = absurd cc
one_taken (suc n) (y ∷ xs) x rest e = let more = one_taken n xs x rest e in (ap (λ l. y ∷ l) more.0, more.1)

-- ---- the first steps of a trace

-- the steps of this many of its actors are made and recorded, and the others are to come
pub record IsGoingOn (p : LaidOut) (trace : Trace) (count : ℕ) (r : RecordedWorld) (u : Upcoming) : Type 0 where
  pub recorded : IsRecordedTo p trace.setup (reverse (take count (actors_of trace.steps))) r
  pub left : actors_in u ≡ drop count (actors_of trace.steps)
  pub are_actors : AreActors (length r.world.setup.starts) (actors_in u)

-- none is made
pub starts : (p : LaidOut) (trace : Trace) (r : RecordedWorld) (u : Upcoming) → AllByRecursion (λ (s : Steps). IsActor (length trace.setup.starts) s.actor) trace.steps → IsRecordedTo p trace.setup [] r
    → actors_in u ≡ actors_of trace.steps → IsGoingOn p trace 0 r u
starts p trace r u all is left = record {
  recorded = is;
  left = left;
  are_actors = subst (λ (setup : Setup). AreActors (length setup.starts) (actors_in u)) (sym is.setup_is)
      (subst (AreActors (length trace.setup.starts)) (sym left) (are_actors (length trace.setup.starts) trace.steps all));
}

-- one more is made
pub goes_on : (p : LaidOut) (trace : Trace) (count : ℕ) (r s : RecordedWorld) (u v : Upcoming) (actor : Actor) → IsGoingOn p trace count r u → actors_in u ≡ actor ∷ actors_in v → s.world.setup ≡ r.world.setup
    → ((p : LaidOut) (setup : Setup) (before : List Actor) → IsRecordedTo p setup before r → IsRecordedTo p setup (actor ∷ before) s) → IsGoingOn p trace (count + 1) s v
goes_on p trace count r s u v actor is ahead same more =
    let actors = actors_of trace.steps in
    let both = one_taken count actors actor (actors_in v) (sym is.left ∙ ahead) in
    let longer : reverse (take (suc count) actors) ≡ actor ∷ reverse (take count actors) = ap reverse both.0 ∙ reverse-append (take count actors) (actor ∷ []) in
    subst (λ n. IsGoingOn p trace n s v) (sym (add-one count)) (record {
      recorded = subst (λ before. IsRecordedTo p trace.setup before s) (sym longer) (more p trace.setup (reverse (take count actors)) is.recorded);
      left = sym both.1;
      are_actors = subst (λ (setup : Setup). AreActors (length setup.starts) (actors_in v)) (sym same) ((subst (AreActors (length r.world.setup.starts)) ahead is.are_actors).1);
    })

-- the next actor is one of the run
pub of_run : (p : LaidOut) (trace : Trace) (count : ℕ) (r : RecordedWorld) (u : Upcoming) (actor : Actor) (rest : List Actor) → IsGoingOn p trace count r u → actors_in u ≡ actor ∷ rest
    → IsActor (length r.world.setup.starts) actor
of_run p trace count r u actor rest is ahead = (subst (AreActors (length r.world.setup.starts)) ahead is.are_actors).0

-- as many are made as were asked for
pub all_asked : (p : LaidOut) (trace : Trace) (count most : ℕ) (r : RecordedWorld) (u : Upcoming) → IsGoingOn p trace count r u → count ≡ most
    → IsRecordOf (events_of (run_at p trace.setup (actors_of trace.steps) most)) r.bytes.items
all_asked p trace count most r u is all = subst (λ n. IsRecordOf (events_of (run_at p trace.setup (actors_of trace.steps) n)) r.bytes.items) all is.recorded.recorded

-- all are made that there are
pub all_made : (p : LaidOut) (trace : Trace) (count most : ℕ) (r : RecordedWorld) (u : Upcoming) → IsGoingOn p trace count r u → actors_in u ≡ [] → count ≤ most
    → IsRecordOf (events_of (run_at p trace.setup (actors_of trace.steps) most)) r.bytes.items
all_made p trace count most r u is none few =
    let actors = actors_of trace.steps in
    let left : length (drop count actors) ≡ 0 = ap length (sym is.left ∙ none) in
    let cut : length (drop count actors) ≡ length actors - count = length-drop count actors in
    let short : length actors ≤ count = omega (arith, left, cut) in
    let same : take count actors ≡ take most actors = take_all count actors short ∙ sym (take_all most actors (omega (arith, short, few))) in
    subst (λ taken. IsRecordOf (events_of (run_of p trace.setup (reverse taken))) r.bytes.items) same is.recorded.recorded
