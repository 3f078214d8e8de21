-- A thread of a machine that is served by the shared heap.
use Rattle.std.specs.Prelude.{ℕ, suc, ◌≤◌, ◌≡◌, Bool, MatchBool, IsTrue, List, length}
use Rattle.pools.specs.Heap.{Setup}
use Rattle.runs.specs.Machine.{Machine, Answer, WordValue}
use Rattle.runs.specs.Moves.{cells_of}
use Rattle.runs.specs.Promises.{IsCareful}
use Rattle.runs.specs.RealThreads.{IsRealShare}
use Rattle.moves.specs.Kinds.{AnswersByKind}
use Rattle.heap_words.specs.Tokens.{Shared}
use Rattle.heap_table.specs.Holders.{Holder, MayCall, MayBegin, IsNow}
use Rattle.serving.specs.declared.root_cells.RootCells.{RootCells}

-- the thread may be served from this state on, which fits the heap: it is between two calls, or late and absent; it keeps to the
-- discipline as long as answers are possible; and its log is that of what it did before it began
pub record MayBeServed (m : Machine) (Fits : Setup → m.State → Type 0) (heap : Shared) (token : Holder) (late : Bool) (start : m.State) : Type 0 where
  pub starts : MatchBool late (MayBegin heap token) (MayCall heap token)
  pub fits : Fits token.setup start
  pub careful : IsCareful token.setup m token.thread start
  pub begun : IsRealShare token.setup m token.thread start token.log start

-- the thread keeps to the discipline as long as answers are possible, and its log is that of what its machine asks for, up to this state, by at least this number of moves
pub record Serves (m : Machine) (start : m.State) (moves : ℕ) (token : Holder) (state : m.State) : Type 0 where
  pub careful : IsCareful token.setup m token.thread start
  pub real : IsRealShare token.setup m token.thread start token.log state
  pub long : moves ≤ length real.share

-- the thread, which began in this state, may make its first call after at least this number of moves
pub record MayCallFirst (m : Machine) (Fits : Setup → m.State → Type 0) (heap : Shared) (token : Holder) (start : m.State) (moves : ℕ) : Type 0 where
  pub ready : MayCall heap token
  pub fits : Fits token.setup start
  pub serves : Serves m start moves token start

-- the heap may serve the thread in this state, which fits the heap
pub record MayServe (m : Machine) (Fits : Setup → m.State → Type 0) (heap : Shared) (token : Holder) (state : m.State) : Type 0 where
  pub ready : MayCall heap token
  pub fits : Fits token.setup state
  pub served : (start : m.State) × (moves : ℕ) × Serves m start moves token state

-- the call that the thread asked for in this state was made to its end, and this is its answer
pub record IsServed (m : Machine) (heap : Shared) (before : Holder) (state : m.State) (after : Holder) (answer : Answer) : Type 0 where
  pub token : IsNow before after.log after
  pub ready : MayCall heap after
  pub goes : (start : m.State) (moves : ℕ) → Serves m start moves before state → Serves m start (suc moves) after (m.after_answer state answer)
  pub by_kind : AnswersByKind before.setup (m.action state) answer

-- the thread went on to the next state by one call
pub record WentOn (m : Machine) (Fits : Setup → m.State → Type 0) (heap : Shared) (before : Holder) (state : m.State) (after : Holder) (next : m.State) : Type 0 where
  pub token : IsNow before after.log after
  pub ready : MayCall heap after
  pub fits : Fits after.setup next
  pub goes : (start : m.State) (moves : ℕ) → Serves m start moves before state → Serves m start (suc moves) after next

-- the thread found no memory, and is between two calls: before the one that it asked for, or after it
pub record StaysReady (m : Machine) (heap : Shared) (before : Holder) (state : m.State) (after : Holder) : Type 0 where
  pub token : IsNow before after.log after
  pub ready : MayCall heap after
  pub reached : m.State
  pub serves : (start : m.State) (moves : ℕ) → Serves m start moves before state → Serves m start moves after reached

-- a list that is current has the cells of these roots
abbrev pub AreListed : RootCells → List WordValue → Type 0
AreListed list roots = IsTrue list.are_current → list.cells.items ≡ cells_of roots
