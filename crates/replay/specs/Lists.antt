-- Lists of actors, the first one first, and the first step after which the run that they make is broken.
use Rattle.std.specs.Prelude.{ℕ, suc, ◌≡◌, ◌≤◌, List, [], ◌∷◌, ◌++◌, length, Some, replicate, reverse, take, slice_get}
use Rattle.layout.specs.Layouts.{LaidOut}
use Rattle.runs.specs.ModuleRuns.{Happening, IsModuleRun}
use Rattle.runs.specs.Broken as broken
use Rattle.runs.specs.Broken.{IsBroken, IsCause}
use Rattle.replay.specs.Runs.{program_machine, heap_of}
use Rattle.trace_text.specs.declared.trace.Setup.{Setup}
use Rattle.trace_text.specs.declared.trace.Steps.{Steps}
use Rattle.moves.specs.declared.actor.Actor.{Actor}
use Rattle.moves.specs.Causes as step
use Rattle.stepping.specs.declared.gone.Gone.{Gone}
use Rattle.stepping.specs.declared.gone.Gone.TheVariants.{Blue, Reborn}
use Rattle.program_runner.specs.Setups.{starts_of}
use Rattle.replay.specs.Worlds.{run_of}
use Rattle.replay.specs.declared.outcome.Break.{Break}
use Rattle.replay.specs.declared.outcome.BreakCause.{BreakCause}
use Rattle.replay.specs.declared.outcome.BreakCause.TheVariants.{OfStep, OfReach}

-- the actor of each step of a trace
abbrev pub actors_of : List Steps → List Actor
actors_of [] = []
actors_of (steps ∷ more) = replicate steps.count steps.actor ++ actors_of more

-- ---- broken

-- the run after the first n steps of a list. A step that changes nothing, as of an ended thread, is counted
abbrev pub run_at : LaidOut → Setup → List Actor → (steps : ℕ) → List Happening
run_at p setup actors steps = run_of p setup (reverse (take steps actors))

-- it is broken
abbrev pub IsBrokenAt : LaidOut → Setup → List Actor → (steps : ℕ) → Type 0
IsBrokenAt p setup actors steps = IsBroken (heap_of p setup) program_machine (starts_of p setup) (run_at p setup actors steps)

-- no step of a list breaks the run, and it is not broken before the first
abbrev pub IsSoundList : LaidOut → Setup → List Actor → Type 0
IsSoundList p setup actors = (steps : ℕ) → steps ≤ length actors → ¬ IsBrokenAt p setup actors steps

-- a reachable reference that is gone, as a cause
abbrev pub cause_of_gone : Gone → broken.Cause
cause_of_gone (Blue cell) = broken.ReachBlue cell
cause_of_gone (Reborn cell) = broken.ReachBirth cell

-- a cause of the code, as one of a run
abbrev pub cause_in : BreakCause → broken.Cause
cause_in (OfStep cause) = step.cause_in cause
cause_in (OfReach gone) = cause_of_gone gone

-- this step of a list is the first after which the run is broken, with its actor and the first cause. Steps are counted from 1
pub record IsFirstBreak (p : LaidOut) (setup : Setup) (actors : List Actor) (b : Break) : Type 0 where
  pub place : ℕ
  pub step : b.step ≡ suc place
  pub actor : slice_get actors place ≡ Some b.actor
  pub before : (steps : ℕ) → steps ≤ place → ¬ IsBrokenAt p setup actors steps
  pub is_run : IsModuleRun (heap_of p setup) program_machine (starts_of p setup) (run_at p setup actors (suc place))
  pub cause : IsCause (heap_of p setup) program_machine (starts_of p setup) (run_at p setup actors (suc place)) (cause_in b.cause)
