-- What is promised of one thread, of the heap, and of the two together.
use Rattle.std.specs.Prelude.{ℕ, ◌<◌, ◌≡◌, ◌≢◌, List, ◌∷◌}
use Rattle.lemmas.specs.Lists.{IsIn}
use Rattle.pools.specs.Heap.{Setup, IsSetup}
use Rattle.colours.specs.Steps.{Step}
use Rattle.colours.specs.Mutator.{IsPossible, Ready, phase_of}
use Rattle.colours.specs.Runs.{Event, ByThread, log_of, IsHeapRun}
use Rattle.colours.specs.Safety.{KeptIsAlive}
use Rattle.runs.specs.Machine as machine
use Rattle.runs.specs.Machine.{WordValue, Machine}
use Rattle.runs.specs.Moves.{Move, state_after, IsAsked, IsShare, steps_of}
use Rattle.runs.specs.Discipline.{MayName, KeepsTo, MayCall, ArePossible}
use Rattle.runs.specs.ModuleRuns.{Happening, IsModuleRun, share_of}
use Rattle.runs.specs.Broken.{IsUnderWay, IsBroken}

-- a thread that begins in this state obeys the discipline, as long as each answer is possible
pub record IsCareful (s : Setup) (m : Machine) (thread : ℕ) (start : m.State) : Type 0 where
  pub moves : (share : List Move) (move : Move) → IsShare s m thread start share → ArePossible s share → IsAsked s m thread start share move → KeepsTo s share move
  -- where it is between two calls, it may make the call that it asks for
  pub calls : (share : List Move) → IsShare s m thread start share → ArePossible s share → phase_of s thread (steps_of share) ≡ Ready
      → MayCall s share (m.action (state_after s m thread start share))
  pub roots : (share : List Move) → IsShare s m thread start share → ArePossible s share → IsUnderWay (phase_of s thread (steps_of share))
      → (r : WordValue) → IsIn r (m.roots (state_after s m thread start share)) → MayName s share r

-- each thread is careful
abbrev pub AreCareful : (s : Setup) (m : Machine) (starts : ℕ → m.State) → Type 0
AreCareful s m starts = (t : ℕ) → t < s.threads → IsCareful s m t (starts t)

-- the law of the heap, as a thread's promise needs it: what is kept is alive, and each answer is possible
pub record HeapLaw (s : Setup) : Type 0 where
  pub kept : (run : List Event) → IsHeapRun s run → KeptIsAlive s run
  pub answered : (run : List Event) (t : ℕ) (step : Step) → IsHeapRun s (ByThread t step ∷ run) → IsPossible s (log_of t run) step

-- the end of no run is broken
abbrev pub IsSafe : (s : Setup) (m : Machine) (starts : ℕ → m.State) → Type 0
IsSafe s m starts = (run : List Happening) → IsModuleRun s m starts run → ¬ IsBroken s m starts run

-- at no end of a run is a thread at an instruction that has no meaning
abbrev pub IsNeverWrong : (s : Setup) (m : Machine) (starts : ℕ → m.State) → Type 0
IsNeverWrong s m starts = (run : List Happening) → IsModuleRun s m starts run → (t : ℕ) → t < s.threads
    → phase_of s t (steps_of (share_of t run)) ≡ Ready → m.action (state_after s m t (starts t) (share_of t run)) ≢ machine.Wrong

-- threads that are careful make safe runs
abbrev pub CarefulIsSafe : (s : Setup) (m : Machine) → Type 0
CarefulIsSafe s m = (starts : ℕ → m.State) → IsSetup s → AreCareful s m starts → IsSafe s m starts

-- and none of them is at an instruction that has no meaning
abbrev pub CarefulIsNeverWrong : (s : Setup) (m : Machine) → Type 0
CarefulIsNeverWrong s m = (starts : ℕ → m.State) → IsSetup s → AreCareful s m starts → IsNeverWrong s m starts
