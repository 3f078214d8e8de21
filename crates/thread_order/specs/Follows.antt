-- Which step may come next, as tests; and where the thread stands after it.
use Rattle.std.specs.Prelude.{ℕ, ◌-◌, ◌<◌, ◌==◌, ◌&&◌, ◌||◌, not, nat_lt, Bool, true, false, List, [], ◌∷◌, ◌++◌, length, slice_index, slice_set, replicate, IsTrue, if◌then◌else◌}
use Rattle.pools.specs.Heap.{Setup, cells, layout_of}
use Rattle.colours.specs.Colours.{is_async, done}
use Rattle.colours.specs.Steps.{Step, ReadWord, ReadOldValue, Mark, StoreAfterBarrier, StorePlain, Claim, ReadPosted, StoreStage, ReadPostedFirst, EnterStage, ReadPostedAgain}
use Rattle.watch.specs.CellSets.{has}
use Rattle.thread_order.specs.declared.at.At.{At}
use Rattle.thread_order.specs.declared.at.At.TheVariants.{Ready, MarkingOld, MarkingNew, Writing, Trying, Answering, Ended, Absent, Arriving, Entering, Leaving}
use Rattle.thread_order.specs.Marks.{are_marked}
use Rattle.thread_order.specs.Standings.{Standing}

-- there is no root
abbrev pub is_none : List ℕ → Bool
is_none [] = true
is_none (root ∷ roots) = false

-- a cell that may be tried first
abbrev pub is_cell : Setup → (cell : ℕ) → Bool
is_cell s cell = nat_lt 0 cell && nat_lt cell (cells s)

-- the cell may be tried next
abbrev pub may_try : Standing → (cell : ℕ) → Bool
may_try v cell = is_cell v.heap cell && ((layout_of v.heap cell == v.pool) && not (has v.is_tried cell))

-- the step may come next
abbrev pub may_follow : Standing → At → Step → Bool
may_follow v Ready (ReadWord cell word value) = true
may_follow v Ready (ReadOldValue cell word value) = true
may_follow v Ready (StorePlain cell word value) = true
may_follow v Ready (Claim cell won) = is_cell v.heap cell
may_follow v Ready (ReadPosted posted) = true
may_follow v Ready (StoreStage next roots) = (next == done) && is_none roots
may_follow v (MarkingOld cell word old) (Mark c) = c == old
may_follow v (MarkingNew cell word old) (Mark c) = not (is_async v.stage) && not (c == 0)
may_follow v (MarkingNew cell word old) (StoreAfterBarrier c w value) = (c == cell) && ((w == word) && (is_async v.stage || (value == 0)))
may_follow v (Writing cell word old new) (StoreAfterBarrier c w value) = (c == cell) && ((w == word) && (value == new))
may_follow v Trying (Claim cell won) = may_try v cell
may_follow v (Answering next) (Mark c) = is_async next && not (c == 0)
may_follow v (Answering next) (StoreStage to roots) = (to == next) && (not (is_async next) || are_marked v.marked roots)
may_follow v Absent (ReadPostedFirst posted) = true
may_follow v (Arriving posted) (EnterStage next) = next == posted
may_follow v Entering (ReadPostedAgain posted) = true
may_follow v Leaving (StoreStage next roots) = (next == done) && is_none roots
may_follow v _ _ = false

-- the step stores the stage that is to be answered
abbrev pub is_answer : At → Step → Bool
is_answer (Answering next) (StoreStage to roots) = to == next
is_answer _ _ = false

-- ---- after the step

abbrev pub with_at : Standing → At → Standing
with_at v at = record v { at = at }

-- tries are under way
abbrev pub is_trying : At → Bool
is_trying Trying = true
is_trying _ = false

-- a request for a cell of this one's pool
abbrev pub with_request : Standing → (cell : ℕ) → Standing
with_request v cell = record v { pool = layout_of v.heap cell; left = slice_index v.heap.pools (layout_of v.heap cell) - 1; is_tried = replicate (length v.is_tried) false }

-- a cell was tried; a request begins so
abbrev pub tried_too : Standing → (trying : Bool) → (cell : ℕ) → Standing
tried_too v true cell = record v { left = v.left - 1; is_tried = slice_set v.is_tried cell true }
tried_too v false cell = let w = with_request v cell in record w { is_tried = slice_set w.is_tried cell true }

-- null is the answer once each cell of the pool was tried
abbrev pub after_try : Standing → Standing
after_try v = with_at v (if v.left == 0 then Ready else Trying)

-- after a try of a cell
abbrev pub after_claim : Standing → At → (cell : ℕ) → (won : Bool) → Standing
after_claim v at cell true = with_at v Ready
after_claim v at cell false = after_try (tried_too v (is_trying at) cell)

-- a try of the cell may be lost
pub record MayLose (v : Standing) (cell : ℕ) : Type 0 where
  pub first : 0 < cell
  pub within : cell < cells v.heap
  pub more : IsTrue (is_trying v.at) → 0 < v.left
  pub some : 0 < slice_index v.heap.pools (layout_of v.heap cell)

-- after a look at the posted stage
abbrev pub after_poll : Standing → (posted : ℕ) → Standing
after_poll v posted = if posted == v.stage then with_at v Ready else record v { at = Answering posted; marked = [] }

-- after a mark
abbrev pub after_mark : Standing → At → (cell : ℕ) → Standing
after_mark v (MarkingOld cell word old) c = with_at v (MarkingNew cell word old)
after_mark v (MarkingNew cell word old) c = with_at v (Writing cell word old c)
after_mark v (Answering stage) c = record v { at = Answering stage; marked = v.marked ++ c ∷ [] }
after_mark v _ c = with_at v Ready

-- after the store of the own stage
abbrev pub after_store : At → (stage : ℕ) → At
after_store Leaving next = Absent
after_store _ next = if next == done then Ended else Ready

-- where a thread that is there stands after a step
abbrev pub stands_from : Standing → At → Step → Standing
stands_from v at (ReadWord cell word value) = with_at v Ready
stands_from v at (ReadOldValue cell word value) = with_at v (if value == 0 then MarkingNew cell word value else MarkingOld cell word value)
stands_from v at (Mark c) = after_mark v at c
stands_from v at (StoreAfterBarrier cell word value) = with_at v Ready
stands_from v at (StorePlain cell word value) = with_at v Ready
stands_from v at (Claim cell won) = after_claim v at cell won
stands_from v at (ReadPosted posted) = after_poll v posted
stands_from v at (StoreStage next roots) = record v { stage = next; at = after_store at next }
stands_from v at (ReadPostedFirst posted) = with_at v (Arriving posted)
stands_from v at (EnterStage next) = record v { stage = next; at = Entering }
stands_from v at (ReadPostedAgain posted) = with_at v (if posted == v.stage then Ready else Leaving)

-- where the thread stands after a step
abbrev pub stands_after : Standing → Step → Standing
stands_after v step = stands_from v v.at step
