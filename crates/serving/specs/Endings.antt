-- How a served thread ends, and what it leaves then.
use Rattle.std.specs.Prelude.{ℕ, ◌≤◌, ◌≡◌, Some, List, [], ◌∷◌, length}
use Rattle.pools.specs.Heap.{Setup}
use Rattle.colours.specs.Colours.{done}
use Rattle.colours.specs.Steps.{Step, StoreStage}
use Rattle.colours.specs.Mutator.{Absent, phase_of}
use Rattle.runs.specs.Machine.{Machine, Answered, End}
use Rattle.runs.specs.RealThreads.{IsRealShare, IsWholeShare}
use Rattle.serving.specs.declared.serving.ServingEnd.{ServingEnd}
use Rattle.serving.specs.declared.serving.ServingEnd.TheVariants.{Ended, Stopped, Memory, Absent as NeverBegan}

-- the log is that of at least this number of moves that lead to this state, and of the step that finishes the thread
pub record IsFinishedAfter (s : Setup) (m : Machine) (thread : ℕ) (start : m.State) (moves : ℕ) (state : m.State) (log : List Step) : Type 0 where
  pub before : List Step
  pub real : IsRealShare s m thread start before state
  pub long : moves ≤ length real.share
  pub finished : log ≡ StoreStage done [] ∷ before

-- the log is that of whole tries to begin, by at least this number of moves
pub record IsAbsentAfter (s : Setup) (m : Machine) (thread : ℕ) (start : m.State) (moves : ℕ) (log : List Step) : Type 0 where
  pub real : IsRealShare s m thread start log start
  pub long : moves ≤ length real.share
  pub absent : phase_of s thread log ≡ Absent

-- a thread that ended asked for its end in this state, and its share is whole. One that stopped, or never began, made at least as many
-- moves as its limit says. One without memory is finished, as far as it came
abbrev pub EndsSo : (s : Setup) (m : Machine) (thread : ℕ) (start : m.State) (limit : ℕ) → ServingEnd → (state : m.State) → List Step → Type 0
EndsSo s m thread start limit Ended state log =
    (m.action state ≡ End) × IsFinishedAfter s m thread start 0 state log × IsWholeShare s m thread start log (m.after_answer state (Answered (Some done)))
EndsSo s m thread start limit Stopped state log = IsFinishedAfter s m thread start limit state log
EndsSo s m thread start limit Memory state log = (reached : m.State) × IsFinishedAfter s m thread start 0 reached log
EndsSo s m thread start limit NeverBegan state log = IsAbsentAfter s m thread start limit log
