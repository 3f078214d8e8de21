-- A thread of a machine that is served by the shared heap, each call tested first.
use Rattle.std.specs.Prelude.{ℕ, suc, ◌≤◌, ◌≡◌, Bool, MatchBool, List, length}
use Rattle.pools.specs.Heap.{Setup}
use Rattle.colours.specs.Steps.{Step}
use Rattle.runs.specs.Machine.{Machine, Action, Answer, WordValue}
use Rattle.runs.specs.RealThreads.{IsRealShare}
use Rattle.moves.specs.Kinds.{AnswersByKind}
use Rattle.heap_words.specs.Tokens.{Shared}
use Rattle.heap_table.specs.Holders.{Holder, MayCall, MayBegin, IsNow}
use Rattle.serving.specs.declared.serving.ServingEnd.TheVariants as end
use Rattle.watched_serving.specs.declared.breach.Halt.{Halt}
use Rattle.watched_serving.specs.declared.breach.Halt.TheVariants.{Broke, Memory}
use Rattle.watched_serving.specs.declared.watching.WatchedEnd.{WatchedEnd}
use Rattle.watched_serving.specs.declared.watching.WatchedEnd.TheVariants as watched
use Rattle.watched_serving.specs.Breaches.{IsBreach}

-- the thread may be served from this state on, which fits the heap: it is between two calls, or late and absent; and its log is that
-- of what it did before it began. Nothing is asked of what it will do
pub record MayBeServed (m : Machine) (Fits : Setup → m.State → Type 0) (heap : Shared) (token : Holder) (late : Bool) (start : m.State) : Type 0 where
  pub starts : MatchBool late (MayBegin heap token) (MayCall heap token)
  pub fits : Fits token.setup start
  pub begun : IsRealShare token.setup m token.thread start token.log start

-- the thread's log is that of what its machine asks for, up to this state, by at least this number of moves
pub record Serves (m : Machine) (start : m.State) (moves : ℕ) (token : Holder) (state : m.State) : Type 0 where
  pub real : IsRealShare token.setup m token.thread start token.log state
  pub long : moves ≤ length real.share

-- the thread, which began in this state, may make its first call after at least this number of moves
pub record MayCallFirst (m : Machine) (Fits : Setup → m.State → Type 0) (heap : Shared) (token : Holder) (start : m.State) (moves : ℕ) : Type 0 where
  pub ready : MayCall heap token
  pub fits : Fits token.setup start
  pub serves : Serves m start moves token start

-- the heap may serve the thread in this state, which fits the heap
pub record MayServe (m : Machine) (Fits : Setup → m.State → Type 0) (heap : Shared) (token : Holder) (state : m.State) : Type 0 where
  pub ready : MayCall heap token
  pub fits : Fits token.setup state

-- the call that the thread asked for in this state was made to its end, and this is its answer
pub record IsServed (m : Machine) (heap : Shared) (before : Holder) (state : m.State) (after : Holder) (answer : Answer) : Type 0 where
  pub token : IsNow before after.log after
  pub ready : MayCall heap after
  pub goes : (start : m.State) (moves : ℕ) → Serves m start moves before state → Serves m start (suc moves) after (m.after_answer state answer)
  pub by_kind : AnswersByKind before.setup (m.action state) answer

-- the thread went on to the next state by one call
pub record WentOn (m : Machine) (Fits : Setup → m.State → Type 0) (heap : Shared) (before : Holder) (state : m.State) (after : Holder) (next : m.State) : Type 0 where
  pub token : IsNow before after.log after
  pub ready : MayCall heap after
  pub fits : Fits after.setup next
  pub goes : (start : m.State) (moves : ℕ) → Serves m start moves before state → Serves m start (suc moves) after next

-- the thread found no memory, and is between two calls: before the one that it asked for, or after it
pub record StaysReady (m : Machine) (heap : Shared) (before : Holder) (state : m.State) (after : Holder) : Type 0 where
  pub token : IsNow before after.log after
  pub ready : MayCall heap after
  pub reached : m.State
  pub serves : (start : m.State) (moves : ℕ) → Serves m start moves before state → Serves m start moves after reached

-- a call of which no step is made: the thread may not make it, or there is no memory for it
abbrev pub IsHalted : Setup → List Step → (roots : List WordValue) → Action → Halt → Type 0
IsHalted s log roots action (Broke breach) = IsBreach s log roots action breach
IsHalted s log roots action Memory = Unit {0}

-- the thread does not go on: it may not make the call, and made no step of it; or there was no memory
abbrev pub HaltsSo : (m : Machine) → Shared → (before : Holder) → (state : m.State) → Halt → (after : Holder) → Type 0
HaltsSo m heap before state (Broke breach) after = (after ≡ before) × IsBreach before.setup before.log (m.roots state) (m.action state) breach
HaltsSo m heap before state Memory after = StaysReady m heap before state after

-- how a thread ends that does not go on
abbrev pub end_by : Halt → WatchedEnd
end_by (Broke breach) = watched.Broke breach
end_by Memory = watched.Kept end.Memory
