-- When a thread may make a step after its log.
use Rattle.std.specs.Prelude.{ℕ, ◌^◌, ◌<◌, ◌≡◌, ◌≢◌, List, ◌∷◌}
use Rattle.pools.specs.Heap.{Setup, cells}
use Rattle.colours.specs.Colours.{done}
use Rattle.colours.specs.declared.ask.Ask.{Ask}
use Rattle.colours.specs.declared.ask.Ask.TheVariants.{Store}
use Rattle.colours.specs.declared.place.Place.TheVariants.{Stage}
use Rattle.colours.specs.Steps.{Step, ask_of, place_of, Found}
use Rattle.colours.specs.Mutator.{stage_of, phase_of, MayFollow, IsDisciplined, Held}
use Rattle.heap_rule.specs.Rule.{HasPlace, told}

-- what the thread holds are cells of the heap
abbrev pub HoldsCells : Setup → List Step → Type 0
HoldsCells s log = (cell : ℕ) → Held s log cell → (0 < cell) × (cell < cells s)

-- the code knows the stage of a thread that has not finished
abbrev pub IsStage : List Step → (stage : ℕ) → Type 0
IsStage log stage = stage_of log ≢ done → (stage ≡ stage_of log) × (stage < 2 ^ 62)

-- the step comes next after the log by this operation, whatever it finds. It is made on a word of the heap, and leaves the stage
pub record IsNext (s : Setup) (thread : ℕ) (log : List Step) (step : ℕ → Step) (ask : Ask) : Type 0 where
  pub there : HoldsCells s log → HasPlace s (place_of ask)
  pub operation : (n : ℕ) → ask_of thread (stage_of log) (step n) ≡ ask
  pub follows : (n : ℕ) → MayFollow s (stage_of log) (phase_of s thread log) (step n)
  pub keeps : (n : ℕ) → IsDisciplined s log (step n)
  pub says : (found : ℕ) → Found (step (told ask found)) found
  pub stays : (n : ℕ) → stage_of (step n ∷ log) ≡ stage_of log

-- the step comes next after the log, and stores this stage as the own one
pub record StoresStage (s : Setup) (thread : ℕ) (log : List Step) (step : Step) (stage : ℕ) : Type 0 where
  pub operation : ask_of thread (stage_of log) step ≡ Store (Stage thread) stage
  pub follows : MayFollow s (stage_of log) (phase_of s thread log) step
  pub keeps : IsDisciplined s log step
  pub says : (found : ℕ) → Found step found
  pub stores : stage_of (step ∷ log) ≡ stage
