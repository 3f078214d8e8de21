-- The threads, the shared words and the collector at the end of the run that a list of actors makes, and one step more.
use Rattle.std.specs.Prelude.{ℕ, ◌≡◌, ◌<◌, ◌≤◌, ◌^◌, Option, Some, None, List, ◌∷◌, length, slice_get}
use Rattle.pools.specs.Heap.{Setup, IsSetup, cells}
use Rattle.colours.specs.Runs.{turns_of}
use Rattle.trace_sweep.specs.Collecting.{Collecting}
use Rattle.runs.specs.Machine.{WordValue, Machine}
use Rattle.runs.specs.Moves as moves
use Rattle.runs.specs.ModuleRuns.{OfThread, OfCollector, share_of, heap_of}
use Rattle.runs.specs.ModuleRuns as runs
use Rattle.runs.specs.Ends.{StandsAfter}
use Rattle.moves.specs.declared.actor.Actor.{Actor}
use Rattle.moves.specs.declared.shared.Shared.{Shared}
use Rattle.moves.specs.declared.thread_state.ThreadState.{ThreadState}
use Rattle.moves.specs.Calls.{move_in}
use Rattle.moves.specs.Causes.{IsStepCause}
use Rattle.moves.specs.Runs.{collector_after, next_by, run_by, AreActors}
use Rattle.moves.specs.Shared.{ThreadStateAfter}
use Rattle.moves.specs.Stands.{standing}
use Rattle.stepping.specs.Reach.{IsSchemaOf, IsFirstGone, LosesNothing}
use Rattle.stepping.specs.Loss.{IsTold}
use Rattle.stepping.specs.Growth.{IsInHeap}
use Rattle.stepping.specs.declared.acting.Actors.{Actors}
use Rattle.stepping.specs.declared.happening.Happening.{Happening}
use Rattle.stepping.specs.declared.happening.Happening.TheVariants.{Thread, Collector}
use Rattle.stepping.specs.declared.happening.MadeStep.{MadeStep}
use Rattle.stepping.specs.declared.loss.Loss.TheVariants.{Nothing}

-- the threads, the shared words and the collector at the end of this run
pub record IsEnd (s : Setup) (m : Machine) (Fits : m.State → Type 0) (starts : ℕ → m.State) (run : List runs.Happening) (threads : List (ThreadState m.State)) (shared : Shared) (collector : Collecting) : Type 0 where
  pub few_cells : cells s ≤ 2 ^ 32
  pub count : length threads ≡ s.threads
  pub stands : (t : ℕ) (thread_state : ThreadState m.State) → slice_get threads t ≡ Some thread_state → StandsAfter s m starts run t (standing s m thread_state)
  pub fits : (t : ℕ) (thread_state : ThreadState m.State) → slice_get threads t ≡ Some thread_state → Fits thread_state.state
  -- what a write under way has read is a cell
  pub replaced : (t : ℕ) (thread_state : ThreadState m.State) → slice_get threads t ≡ Some thread_state → thread_state.replaced.cell < cells s
  pub collects : collector ≡ collector_after s (turns_of (heap_of run))
  pub in_heap : IsInHeap s collector
  pub words : ThreadStateAfter s run shared

-- they are what these actors, the newest first, make of their starts
pub record IsAfter (s : Setup) (m : Machine) (Fits : m.State → Type 0) (starts : ℕ → m.State) (actors : List Actor) (threads : List (ThreadState m.State)) (shared : Shared) (collector : Collecting) : Type 0 where
  pub are_actors : AreActors s.threads actors
  pub is_end : IsEnd s m Fits starts (run_by s m starts actors) threads shared collector

-- the same for the actors of the code
pub record AreAfterSteps (s : Setup) (m : Machine) (Fits : m.State → Type 0) (starts : ℕ → m.State) (before : List Actor) (actors : Actors m.State) : Type 0 where
  pub schema : IsSchemaOf s actors.schema
  pub setup : IsSetup s
  pub is_after : IsAfter s m Fits starts before actors.threads.items actors.shared actors.collector

-- ---- one step

-- what was made is this happening
abbrev pub Tells : (roots : ℕ → List WordValue) → Happening → runs.Happening → Type 0
Tells roots (Thread t made) happening = happening ≡ OfThread t (move_in (roots t) made)
Tells roots (Collector turn) happening = happening ≡ OfCollector turn

-- the step says what the actor made after this run, and how it breaks the run
pub record IsStep (s : Setup) (m : Machine) (starts : ℕ → m.State) (run : List runs.Happening) (actor : Actor) (step : MadeStep) : Type 0 where
  pub happening : runs.Happening
  pub next : next_by s m starts run actor ≡ Some happening
  pub tells : Tells (λ t. m.roots (moves.state_after s m t (starts t) (share_of t run))) step.happening happening
  pub broke : IsStepCause s m starts (happening ∷ run) step.broke
  -- it is told that nothing may be lost only of a step that loses nothing, and that something may be only of another one
  pub loss : IsTold step.loss (LosesNothing s m starts run happening)
  -- where nothing that is gone could be reached before, nothing can be after a step that loses nothing
  pub loses : step.loss ≡ Nothing → IsFirstGone s m starts run None → IsFirstGone s m starts (happening ∷ run) None

-- where no step was made, the actor has no next step
abbrev pub IsStepOrNone : (s : Setup) (m : Machine) (starts : ℕ → m.State) → List runs.Happening → Actor → Option MadeStep → Type 0
IsStepOrNone s m starts run actor None = next_by s m starts run actor ≡ None
IsStepOrNone s m starts run actor (Some step) = IsStep s m starts run actor step

-- what the actor made after these is returned, and the actors are those after it
pub record IsOneStep (s : Setup) (m : Machine) (Fits : m.State → Type 0) (starts : ℕ → m.State) (before : List Actor) (actor : Actor) (made : Option MadeStep) (actors : Actors m.State) : Type 0 where
  pub made_is : IsStepOrNone s m starts (run_by s m starts before) actor made
  pub afterwards : AreAfterSteps s m Fits starts (actor ∷ before) actors

-- ---- a cover

-- there was no step, or one of which it is told that nothing may be lost
abbrev pub IsQuiet : Option MadeStep → Type 0
IsQuiet None = Unit {0}
IsQuiet (Some step) = step.loss ≡ Nothing
