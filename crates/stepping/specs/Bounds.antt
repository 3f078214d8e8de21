-- Bounds of the numbers of a run.
use Rattle.std.specs.Prelude.{ℕ, ◌<◌, ◌≢◌, ◌^◌, List}
use Rattle.pools.specs.Heap.{Setup}
use Rattle.colours.specs.Mutator.{Ended, HasBegun, stage_of, phase_of}
use Rattle.runs.specs.Machine.{Machine}
use Rattle.runs.specs.Moves.{steps_of}
use Rattle.runs.specs.ModuleRuns.{Happening, share_of, birth_of, IsModuleRun}

-- the stages of threads that have begun and not ended, and the births of cells
pub record IsBounded (s : Setup) (run : List Happening) : Type 0 where
  pub stages : (t : ℕ) → t < s.threads → HasBegun (phase_of s t (steps_of (share_of t run))) → phase_of s t (steps_of (share_of t run)) ≢ Ended
      → stage_of (steps_of (share_of t run)) < 2 ^ 62
  pub births : (cell : ℕ) → birth_of s run cell < 2 ^ 62

-- the same after each run
abbrev pub AreBounded : (s : Setup) (m : Machine) → Type 0
AreBounded s m = (starts : ℕ → m.State) (run : List Happening) → IsModuleRun s m starts run → IsBounded s run
