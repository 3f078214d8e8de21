-- How a watched thread ends, and what it leaves then.
use Rattle.std.specs.Prelude.{ℕ, ◌≡◌, List, [], ◌∷◌}
use Rattle.pools.specs.Heap.{Setup}
use Rattle.colours.specs.Colours.{done}
use Rattle.colours.specs.Steps.{Step, StoreStage}
use Rattle.runs.specs.Machine.{Machine}
use Rattle.runs.specs.RealThreads.{IsRealShare}
use Rattle.serving.specs.Endings as kept
use Rattle.watched_serving.specs.declared.breach.Breach.{Breach}
use Rattle.watched_serving.specs.declared.watching.WatchedEnd.{WatchedEnd}
use Rattle.watched_serving.specs.declared.watching.WatchedEnd.TheVariants.{Kept, Broke}
use Rattle.watched_serving.specs.Breaches.{IsBreach}

-- the log is that of moves that lead to this state, whose call the thread may not make, and of the step that finishes the thread
pub record IsBrokenAt (s : Setup) (m : Machine) (thread : ℕ) (start : m.State) (breach : Breach) (state : m.State) (log : List Step) : Type 0 where
  pub before : List Step
  pub real : IsRealShare s m thread start before state
  pub breach_is : IsBreach s before (m.roots state) (m.action state) breach
  pub finished : log ≡ StoreStage done [] ∷ before

-- a thread that broke nothing ended as any served thread does
abbrev pub EndsSo : (s : Setup) (m : Machine) (thread : ℕ) (start : m.State) (limit : ℕ) → WatchedEnd → (state : m.State) → List Step → Type 0
EndsSo s m thread start limit (Kept end) state log = kept.EndsSo s m thread start limit end state log
EndsSo s m thread start limit (Broke breach) state log = IsBrokenAt s m thread start breach state log
