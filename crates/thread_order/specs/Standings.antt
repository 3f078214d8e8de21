-- Where a thread stands, as the code has it.
use Rattle.std.specs.Prelude.{ℕ, ◌+◌, ◌≡◌, ◌≢◌, ◌<◌, ◌↔◌, Bool, List, [], length, reverse, slice_index, IsTrue}
use Rattle.lemmas.specs.Lists.{IsIn}
use Rattle.pools.specs.Heap.{Setup, cells, layout_of}
use Rattle.colours.specs.Mutator as order
use Rattle.watch.specs.CellSets.{has}
use Rattle.thread_order.specs.declared.at.At.{At}
use Rattle.thread_order.specs.declared.at.At.TheVariants.{Ready, MarkingOld, MarkingNew, Writing, Trying, Answering, Ended, Absent, Arriving, Entering, Leaving}

-- A thread: its heap, the stage that it stored last, and where it is. Of a request under way: its pool, how many of its cells are
-- left to try, and which were tried. Of an answer under way: the roots that were marked, the first one first.
pub record Standing : Type 0 where
  pub heap : Setup
  pub stage : ℕ
  pub at : At
  pub pool : ℕ
  pub left : ℕ
  pub is_tried : List Bool
  pub marked : List ℕ

-- where a thread is that tries no cell
abbrev pub phase_at : At → (marked : List ℕ) → order.Phase
phase_at Ready marked = order.Ready
phase_at (MarkingOld cell word old) marked = order.MarkingOld cell word old
phase_at (MarkingNew cell word old) marked = order.MarkingNew cell word old
phase_at (Writing cell word old new) marked = order.Writing cell word old new
phase_at Trying marked = order.Ready
phase_at (Answering stage) marked = order.Answering stage (reverse marked)
phase_at Ended marked = order.Ended
phase_at Absent marked = order.Absent
phase_at (Arriving stage) marked = order.Arriving stage
phase_at Entering marked = order.Entering
phase_at Leaving marked = order.Leaving

-- these are the cells of its pool that the request tried, and some are left
pub record HasTried (v : Standing) (tried : List ℕ) : Type 0 where
  pub left : length tried + v.left ≡ slice_index v.heap.pools v.pool
  pub more : 0 < v.left
  pub some : tried ≢ []
  pub pool : (cell : ℕ) → IsIn cell tried → layout_of v.heap cell ≡ v.pool
  pub set : (cell : ℕ) → IsTrue (has v.is_tried cell) ↔ IsIn cell tried

-- the thread is in this phase
abbrev pub IsInPhase : Standing → At → order.Phase → Type 0
IsInPhase v Trying phase = (tried : List ℕ) × (phase ≡ order.Trying tried) × HasTried v tried
IsInPhase v at phase = phase ≡ phase_at at v.marked
