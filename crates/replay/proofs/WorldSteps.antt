-- A world after one more step.
use Rattle.std.proofs.Common.{◌≡◌, ℕ, Bool, false, Option, Some, Result, Ok, Err, List, [], ◌∷◌, length, map, slice_get, refl, sym, ap, ◌∙◌, subst}
use Rattle.std.specs.Prelude.{IfSome, IfOk}
use Rattle.std.specs.Result.{is_err}
use Rattle.pools.specs.Heap.{cells_in}
use Rattle.std.proofs.lemmas.List.{length-map}
use Rattle.layout.specs.Layouts.{LaidOut}
use Rattle.certs.specs.declared.section.Section.{Section}
use Rattle.replay.specs.declared.thread_outcome.ThreadOutcome.{ThreadOutcome}
use Rattle.machine.specs.Machine.{start}
use Rattle.machine.specs.Start.{argument_values, StartsByReference, StartsWrongly}
use Rattle.moves.specs.Runs.{IsActor}
use Rattle.stepping.specs.declared.acting.Actors.{Actors}
use Rattle.stepping.specs.declared.beginning.NewThread.{NewThread}
use Rattle.stepping.specs.declared.cover.Cover.{Cover}
use Rattle.stepping.specs.declared.happening.MadeStep.{MadeStep}
use Rattle.stepping.specs.Covers.{IsOver}
use Rattle.stepping.specs.Ends as stepping
use Rattle.program_runner.specs.Threads.{CertifiedIsSafe, ProgramThread, program_machine}
use Rattle.program_runner.specs.Heaps.{heap_of}
use Rattle.program_runner.specs.Kinds.{FitsThread}
use Rattle.trace_text.specs.Arrivals.{is_late}
use Rattle.moves.specs.declared.actor.Actor.{Actor}
use Rattle.moves.specs.declared.actor.Actor.TheVariants.{Thread, Collector}
use Rattle.trace_text.specs.declared.trace.Setup.{Setup}
use Rattle.trace_text.specs.declared.trace.Start.{Start}
use Rattle.replay.specs.declared.world.World.TheInside.{Inside}
use Rattle.replay.specs.Keeping.{endings_after}
use Rattle.program_runner.specs.Setups.{HasNoFault, IsCertifiedSetup, AreBegun, begun_at, new_thread, starts_of}
use Rattle.replay.specs.Worlds.{World, AreEndings, IsAfter, IsStepAfter, IsBrokenWorld, IsOverIn, run_of}
use Rattle.replay.specs.WorldView.{world_seen, IsKept}
use Rattle.replay.proofs.Endings.{kept, kept_by_collector, none_ended}
use Rattle.replay.proofs.Ends.{afterwards, from_map}
use Rattle.program_runner.specs.SafeSetups.{certified_setup, each_may_begin}
use Rattle.program_runner.specs.SetupHeaps.{is_setup}

-- the actors of a world are those after the steps that led to it
pub are_after : (i : Inside) (w : World) (before : List Actor) → world_seen i ≡ w → IsKept i → IsAfter w before
    → stepping.AreAfterSteps (heap_of w.program w.setup) program_machine (FitsThread (heap_of w.program w.setup)) (starts_of w.program w.setup) before i.actors
are_after i w before seen kept b =
    subst (λ (v : World). IsAfter v before → stepping.AreAfterSteps (heap_of v.program v.setup) program_machine (FitsThread (heap_of v.program v.setup)) (starts_of v.program v.setup) before i.actors)
    seen
    (λ b. record {
      schema = kept.schema;
      setup = is_setup i.program.now i.setup.now;
      is_after = record { are_actors = b.are_actors; is_end = b.ends.is_end };
    })
    b

-- the cells of a cover are cells of its actors' heap
pub over_in : (i : Inside) (w : World) → world_seen i ≡ w → IsKept i → (cover : Cover) → IsOverIn w cover → IfSome cover.walk (IsOver (cells_in i.actors.schema.pools.now))
over_in i w seen kept cover over =
    subst (λ (count : ℕ). IfSome cover.walk (IsOver count)) (ap cells_in kept.schema.pools) (subst (λ (v : World). IsOverIn v cover) (sym seen) over)

-- the endings after a step
are_endings : (p : LaidOut) (setup : Setup) (before : List Actor) (actors : Actors ProgramThread) (endings : List ThreadOutcome) (actor : Actor)
    → stepping.AreAfterSteps (heap_of p setup) program_machine (FitsThread (heap_of p setup)) (starts_of p setup) before actors → IsActor (length setup.starts) actor
    → AreEndings p setup (run_of p setup before) endings
    → AreEndings p setup (run_of p setup (actor ∷ before)) (endings_after actor actors.threads.items endings)
are_endings p setup before actors endings (Thread t) b is are = kept p setup before actors.threads.items actors.shared actors.collector endings t b.is_after.is_end is are
are_endings p setup before actors endings Collector b is are = kept_by_collector p setup before endings are

-- the fields of a world after a step
abbrev pub stepped : Inside → (actor : Actor) → Actors ProgramThread → Inside
stepped i actor actors = record i { actors = actors; endings = endings_after actor i.actors.threads.items i.endings }

-- what a step of the actor tells, and where it leads
abbrev pub IsStepOf : Inside → (before : List Actor) → Actor → Option MadeStep → Actors ProgramThread → Type 0
IsStepOf i before actor made actors =
    stepping.IsOneStep (heap_of i.program.now i.setup.now) program_machine (FitsThread (heap_of i.program.now i.setup.now)) (starts_of i.program.now i.setup.now) before actor made actors

-- the world after a step
pub is_after : (i : Inside) (actor : Actor) (before : List Actor) (made : Option MadeStep) (actors : Actors ProgramThread) → IsKept i → IsAfter (world_seen i) before
    → IsActor (length i.setup.now.starts) actor → IsStepOf i before actor made actors → IsAfter (world_seen (stepped i actor actors)) (actor ∷ before)
is_after i actor before made actors kept b is step =
    afterwards (world_seen (stepped i actor actors)) (actor ∷ before) step.afterwards.is_after
    (are_endings i.program.now i.setup.now before i.actors i.endings actor (are_after i (world_seen i) before refl kept b) is b.ends.endings)

-- keeps what a world keeps
pub is_kept : (i : Inside) (actor : Actor) (made : Option MadeStep) (actors : Actors ProgramThread) → (kept : IsKept i) → IsActor (length i.setup.now.starts) actor
    → IsStepOf i kept.made.0 actor made actors → IsKept (stepped i actor actors)
is_kept i actor made actors kept is step = record {
  schema = step.afterwards.schema;
  setup = kept.setup;
  no_fault = kept.no_fault;
  made = (actor ∷ kept.made.0, is_after i actor kept.made.0 made actors kept kept.made.1 is step);
}

-- where the program is certified, no world is broken
pub is_safe : CertifiedIsSafe → (i : Inside) (certs : List Section) (before : List Actor) → IsKept i → IsCertifiedSetup i.program.now i.setup.now certs → IsAfter (world_seen i) before
    → ¬ IsBrokenWorld (world_seen i) before
is_safe law i certs before kept certified b = certified_setup law i.program.now i.setup.now certs kept.setup kept.no_fault certified (run_of i.program.now i.setup.now before) b.ends.is_run

-- a step of an actor, as the code made it if memory was there: which actor it was, the actors after it and the endings that are kept
pub record IsMadeBy {E : Type 0} (i : Inside) (actor : Actor) (result : Result (Option MadeStep) E) (actors : Actors ProgramThread) (endings : List ThreadOutcome) : Type 0 where
  pub is_actor : IsActor (length i.setup.now.starts) actor
  pub endings_are : endings ≡ endings_after actor i.actors.threads.items i.endings
  pub makes : (before : List Actor)
      → stepping.AreAfterSteps (heap_of i.program.now i.setup.now) program_machine (FitsThread (heap_of i.program.now i.setup.now)) (starts_of i.program.now i.setup.now) before i.actors
      → IfOk result (λ made. IsStepOf i before actor made actors)

-- the actor is one of the world
pub is_actor : (i : Inside) (w : World) (actor : Actor) → world_seen i ≡ w → IsActor (length w.setup.starts) actor → IsActor (length i.setup.now.starts) actor
is_actor i w actor seen of = subst (λ (v : World). IsActor (length v.setup.starts) actor) (sym seen) of

-- the world after it keeps what a world keeps
pub keeps : {E : Type 0} (i : Inside) (actor : Actor) (result : Result (Option MadeStep) E) (failed : Bool) (actors : Actors ProgramThread) (endings : List ThreadOutcome)
    → IsKept i → failed ≡ is_err result → failed ≡ false → IsMadeBy i actor result actors endings → IsKept (record i { actors = actors; endings = endings })
keeps i actor (Ok made) failed actors endings kept is not by =
    subst (λ (e : List ThreadOutcome). IsKept (record i { actors = actors; endings = e })) (sym by.endings_are)
    (is_kept i actor made actors kept by.is_actor (by.makes kept.made.0 (are_after i (world_seen i) kept.made.0 refl kept kept.made.1)))
keeps i actor (Err e) failed actors endings kept is not by = cc

-- the step is told, and the world is the one after it
pub tells : {E : Type 0} (i : Inside) (w : World) (actor : Actor) (result : Result (Option MadeStep) E) (actors : Actors ProgramThread) (endings : List ThreadOutcome)
    → world_seen i ≡ w → IsKept i → IsMadeBy i actor result actors endings → (before : List Actor) → IsAfter w before
    → IfOk result (λ made. IsStepAfter w before actor made × IsAfter (world_seen (record i { actors = actors; endings = endings })) (actor ∷ before))
tells i w actor (Ok made) actors endings seen kept by before b =
    let here : IsAfter (world_seen i) before = subst (λ (v : World). IsAfter v before) (sym seen) b in
    let step = by.makes before (are_after i (world_seen i) before refl kept here) in
    let told : IsStepAfter (world_seen i) before actor made = step.made_is in
    let there : IsStepAfter w before actor made = subst (λ (v : World). IsStepAfter v before actor made) seen told in
    let leads : IsAfter (world_seen (record i { actors = actors; endings = endings })) (actor ∷ before) =
    subst (λ (e : List ThreadOutcome). IsAfter (world_seen (record i { actors = actors; endings = e })) (actor ∷ before)) (sym by.endings_are) (is_after i actor before made actors kept here by.is_actor step) in
    (there, leads)
tells i w actor (Err e) actors endings seen kept by before b = tt

-- and it is not broken where the program is certified
pub stays_safe : {E : Type 0} → CertifiedIsSafe → (i : Inside) (w : World) (actor : Actor) (result : Result (Option MadeStep) E) (actors : Actors ProgramThread) (endings : List ThreadOutcome)
    → world_seen i ≡ w → IsKept i → IsMadeBy i actor result actors endings → (certs : List Section) (before : List Actor) → IsCertifiedSetup w.program w.setup certs → IsAfter w before
    → IfOk result (λ _. ¬ IsBrokenWorld (world_seen (record i { actors = actors; endings = endings })) (actor ∷ before))
stays_safe law i w actor (Ok made) actors endings seen kept by certs before certified b =
    is_safe law (record i { actors = actors; endings = endings }) certs (actor ∷ before) (keeps i actor (Ok made) false actors endings kept refl refl by)
    (subst (λ (v : World). IsCertifiedSetup v.program v.setup certs) (sym seen) certified) (tells i w actor (Ok made) actors endings seen kept by before b).1
stays_safe law i w actor (Err e) actors endings seen kept by certs before certified b = tt

-- ---- the start

-- what is known of threads that may begin
abbrev pub BegunFits : Type 0
BegunFits = (p : LaidOut) (setup : Setup) (function : ℕ) (arguments values : List ℕ) → (StartsByReference p function → ⊥) → (StartsWrongly p function arguments → ⊥)
    → FitsThread (heap_of p setup) (record { heap = heap_of p setup; program = p; state = start p.of_module (slice_get p.of_module.functions function) function (argument_values arguments); values = values })

-- the threads of a setup are as they begin, and fit its heap
pub each_begun : BegunFits → (p : LaidOut) (setup : Setup) (threads : List (NewThread ProgramThread)) → HasNoFault p setup → AreBegun p setup threads → (t : ℕ) (new : NewThread ProgramThread) → slice_get threads t ≡ Some new
    → (starts_of p setup t ≡ new.machine) × FitsThread (heap_of p setup) new.machine
each_begun law p setup threads none are t new at =
    let found = from_map (new_thread p setup) setup.starts t new (subst (λ (all : List (NewThread ProgramThread)). slice_get all t ≡ Some new) are at) in
    let may = each_may_begin p setup none t found.0 found.1 in
    let same : begun_at p setup (Some found.0) ≡ new.machine = ap (λ (x : NewThread ProgramThread). x.machine) found.2 in
    (ap (begun_at p setup) found.1 ∙ same, subst (FitsThread (heap_of p setup)) same (law p setup found.0.function found.0.arguments found.0.values may.takes_integers may.takes_these))

-- so there is one for each start
pub as_many : (p : LaidOut) (setup : Setup) (threads : List (NewThread ProgramThread)) → AreBegun p setup threads → length threads ≡ length setup.starts
as_many p setup threads are = ap length are ∙ length-map setup.starts (new_thread p setup)

-- whether each of these is late
lateness : (p : LaidOut) (setup : Setup) (starts : List Start) → map (λ (start : Start). is_late start.arrival) starts ≡ map (λ (new : NewThread ProgramThread). new.is_late) (map (new_thread p setup) starts)
lateness p setup [] = refl
lateness p setup (start ∷ starts) = ap (λ (others : List Bool). is_late start.arrival ∷ others) (lateness p setup starts)

-- so the heap's late threads are these
pub late_threads : (p : LaidOut) (setup : Setup) (threads : List (NewThread ProgramThread)) → AreBegun p setup threads → (heap_of p setup).late ≡ map (λ (new : NewThread ProgramThread). new.is_late) threads
late_threads p setup threads are = lateness p setup setup.starts ∙ ap (map (λ (new : NewThread ProgramThread). new.is_late)) (sym are)

-- the world before its first step
pub is_first : (i : Inside) → stepping.AreAfterSteps (heap_of i.program.now i.setup.now) program_machine (FitsThread (heap_of i.program.now i.setup.now)) (starts_of i.program.now i.setup.now) [] i.actors
    → length i.endings ≡ length i.setup.now.starts → IsAfter (world_seen i) []
is_first i b one_each = afterwards (world_seen i) [] b.is_after (none_ended i.program.now i.setup.now i.endings one_each)
