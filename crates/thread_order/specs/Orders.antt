-- A thread and its log.
use Rattle.std.specs.Prelude.{ℕ, ◌≡◌, ◌↔◌, Bool, List, ◌∷◌, length, IsTrue}
use Rattle.pools.specs.Heap.{Setup, cells}
use Rattle.colours.specs.Steps.{Step, StoreStage}
use Rattle.colours.specs.Mutator.{Phase, Answering, stage_of, phase_of, MayFollow}
use Rattle.thread_order.specs.Standings.{Standing, IsInPhase}

-- the thread stands where it is after this log
pub record Stands (s : Setup) (thread : ℕ) (log : List Step) (v : Standing) : Type 0 where
  pub heap : v.heap ≡ s
  pub stage : v.stage ≡ stage_of log
  pub phase : IsInPhase v v.at (phase_of s thread log)
  pub set_of : length v.is_tried ≡ cells s

-- the step stores the stage that a thread in this phase is to answer
abbrev pub StoresAsked : Phase → Step → Type 0
StoresAsked (Answering next marked) (StoreStage to roots) = to ≡ next
StoresAsked _ _ = ⊥

-- a test whether the step stores the stage that is to be answered says so of each log that led here
abbrev pub TellsAsked : Standing → Step → Bool → Type 0
TellsAsked v step result = (s : Setup) (thread : ℕ) (log : List Step) → Stands s thread log v → IsTrue result ↔ StoresAsked (phase_of s thread log) step

-- what a test of the next step says of each log that led here
abbrev pub Tells : Standing → Step → Bool → Type 0
Tells v step result = (s : Setup) (thread : ℕ) (log : List Step) → Stands s thread log v → IsTrue result ↔ MayFollow s (stage_of log) (phase_of s thread log) step

-- a step leads from each log that led here
abbrev pub GoesOn : (old : Standing) → Step → (new : Standing) → Type 0
GoesOn old step new = (s : Setup) (thread : ℕ) (log : List Step) → Stands s thread log old → MayFollow s (stage_of log) (phase_of s thread log) step → Stands s thread (step ∷ log) new
