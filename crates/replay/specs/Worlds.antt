-- A world of a program's threads and the collector, as the end of the run that a list of actors makes from its setup.
use Rattle.std.specs.Prelude.{ℕ, ◌≡◌, ◌<◌, Option, Some, List, [], ◌∷◌, length, map, slice_get, IfSome}
use Rattle.pools.specs.Heap as heap
use Rattle.colours.specs.Collector.{Collection}
use Rattle.colours.specs.Mutator.{Ended, phase_of}
use Rattle.trace_sweep.specs.Collecting.{Collecting, in_order}
use Rattle.runs.specs.Moves.{Move, steps_of, state_after}
use Rattle.runs.specs.ModuleRuns.{Happening, share_of, IsModuleRun}
use Rattle.runs.specs.Ends.{WorldState, IsEndOf}
use Rattle.runs.specs.Tries.{TriesByHint}
use Rattle.runs.specs.Broken.{IsBroken}
use Rattle.layout.specs.Layouts.{LaidOut}
use Rattle.machine.specs.declared.ending.Ending.{Ending}
use Rattle.machine.specs.declared.ending.Ending.TheVariants.{Returned, Over}
use Rattle.machine.specs.Endings.{ending}
use Rattle.program_runner.specs.Threads.{ProgramThread, program_machine}
use Rattle.program_runner.specs.Heaps.{heap_of}
use Rattle.program_runner.specs.Kinds.{FitsThread}
use Rattle.trace_text.specs.declared.trace.Setup.{Setup}
use Rattle.moves.specs.declared.actor.Actor.{Actor}
use Rattle.moves.specs.declared.thread_state.ThreadState.{ThreadState}
use Rattle.moves.specs.declared.shared.Shared.{Shared}
use Rattle.moves.specs.Runs.{run_by, AreActors}
use Rattle.moves.specs.Stands.{standing}
use Rattle.stepping.specs.declared.cover.Cover.{Cover}
use Rattle.stepping.specs.declared.gone.Gone.{Gone}
use Rattle.stepping.specs.Covers.{IsOver, IsCovered}
use Rattle.stepping.specs.Reach.{IsFirstGone}
use Rattle.stepping.specs.declared.happening.MadeStep.{MadeStep}
use Rattle.stepping.specs.Ends.{IsEnd, IsStepOrNone}
use Rattle.replay.specs.declared.thread_outcome.ThreadOutcome.{ThreadOutcome}
use Rattle.replay.specs.declared.thread_outcome.ThreadOutcome.TheVariants as thread
use Rattle.program_runner.specs.Setups.{starts_of}

-- a world: the program, the setup from which it began, the state of its actors and words, and how the threads that have ended did so
pub record World : Type 0 where
  pub program : LaidOut
  pub setup : Setup
  pub threads : List (ThreadState ProgramThread)
  pub shared : Shared
  pub collector : Collecting
  pub endings : List ThreadOutcome

-- the run that these actors make from the setup, the newest first
abbrev pub run_of : LaidOut → Setup → List Actor → List Happening
run_of p setup actors = run_by (heap_of p setup) program_machine (starts_of p setup) actors

-- the actors and the words, with the collector at this place
abbrev pub state_of : World → (place : Collection) → WorldState ProgramThread
state_of w place = record {
  threads = map (standing (heap_of w.program w.setup) program_machine) w.threads;
  stages = w.shared.stages;
  posted = w.shared.posted;
  colours = w.shared.colours;
  births = w.shared.births;
  words = w.shared.words;
  collector = place;
}

-- the end of a thread that ended so
abbrev pub ended_by : Ending → ThreadOutcome
ended_by (Returned result) = thread.Returned result
ended_by Over = thread.Ended

-- how a thread says that it ends, at the instruction at which it is
abbrev pub ending_at : ProgramThread → ThreadOutcome
ending_at t = ended_by (ending t.program t.state)

-- how a thread with this share ended, if it has: what it said before its newest move
abbrev pub ending_of : (s : heap.Setup) (thread : ℕ) → ProgramThread → List Move → ThreadOutcome
ending_of s t start [] = thread.Ended
ending_of s t start (move ∷ share) = ending_at (state_after s program_machine t start share)

-- these are the endings of the threads of a run that have ended
pub record AreEndings (p : LaidOut) (setup : Setup) (run : List Happening) (endings : List ThreadOutcome) : Type 0 where
  pub one_each : length endings ≡ length setup.starts
  pub each : (t : ℕ) → t < length setup.starts → phase_of (heap_of p setup) t (steps_of (share_of t run)) ≡ Ended
      → slice_get endings t ≡ Some (ending_of (heap_of p setup) t (starts_of p setup t) (share_of t run))

-- the world is the end of this run
pub record EndsIn (w : World) (run : List Happening) : Type 0 where
  pub is_run : IsModuleRun (heap_of w.program w.setup) program_machine (starts_of w.program w.setup) run
  pub tries : (t : ℕ) → t < length w.setup.starts → TriesByHint (heap_of w.program w.setup) program_machine t (starts_of w.program w.setup t) (share_of t run)
  pub place : Collection
  pub in_order : w.collector.at ≡ in_order place
  pub ends : IsEndOf (heap_of w.program w.setup) program_machine (starts_of w.program w.setup) run (state_of w place)
  pub is_end : IsEnd (heap_of w.program w.setup) program_machine (FitsThread (heap_of w.program w.setup)) (starts_of w.program w.setup) run w.threads w.shared w.collector
  pub endings : AreEndings w.program w.setup run w.endings

-- the world is what these actors, the newest first, make of its setup
pub record IsAfter (w : World) (actors : List Actor) : Type 0 where
  pub are_actors : AreActors (length w.setup.starts) actors
  pub ends : EndsIn w (run_of w.program w.setup actors)

-- each world is what some actors make
abbrev pub IsMade : World → Type 0
IsMade w = (actors : List Actor) × IsAfter w actors

-- ---- its steps

-- the step, or none, is that of the actor after these, and says how it breaks the run
abbrev pub IsStepAfter : World → (before : List Actor) → Actor → Option MadeStep → Type 0
IsStepAfter w before actor made = IsStepOrNone (heap_of w.program w.setup) program_machine (starts_of w.program w.setup) (run_of w.program w.setup before) actor made

-- the cells of a cover, where they are known, are cells of the world that a walk met, and none of them is gone
abbrev pub IsOverIn : World → Cover → Type 0
IsOverIn w cover = IfSome cover.walk (IsOver (heap.cells (heap_of w.program w.setup)))

-- all that can be reached in the world after these is among them
abbrev pub IsCoveredWorld : World → (before : List Actor) → Cover → Type 0
IsCoveredWorld w before cover = IsCovered (heap_of w.program w.setup) program_machine (starts_of w.program w.setup) (run_of w.program w.setup before) cover

-- the first thing that is gone in the world after these and can be reached, if there is one
abbrev pub IsFirstGoneOf : World → (before : List Actor) → Option Gone → Type 0
IsFirstGoneOf w before gone = IsFirstGone (heap_of w.program w.setup) program_machine (starts_of w.program w.setup) (run_of w.program w.setup before) gone

-- the world after these is broken
abbrev pub IsBrokenWorld : World → (before : List Actor) → Type 0
IsBrokenWorld w before = IsBroken (heap_of w.program w.setup) program_machine (starts_of w.program w.setup) (run_of w.program w.setup before)
