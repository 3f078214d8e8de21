-- The tokens of threads, as contracts see them.
use Rattle.std.specs.Prelude.{ℕ, ◌≡◌, ◌≢◌, List}
use Rattle.atomic_table.specs.Seated.{TableId}
use Rattle.pools.specs.Heap.{Setup}
use Rattle.colours.specs.Colours.{done}
use Rattle.colours.specs.Steps.{Step}
use Rattle.colours.specs.Mutator.{Ready, Absent, stage_of, phase_of, IsPossibleLog}
use Rattle.colours.specs.Runs.{Event, log_of, IsHeapRun}
use Rattle.heap_words.specs.Tokens.{Shared}

-- a thread's token: the table that it is of, how its heap was set up, the thread, and its steps, the newest first
pub record Holder : Type 0 where
  pub table : TableId
  pub setup : Setup
  pub thread : ℕ
  pub log : List Step

-- the token is of this heap
pub record IsOf (heap : Shared) (token : Holder) : Type 0 where
  pub table : token.table ≡ heap.table
  pub setup : token.setup ≡ heap.setup

-- the token is of this heap, and its thread has begun, has not finished, and is between two calls
pub record MayCall (heap : Shared) (token : Holder) : Type 0 where
  pub of : IsOf heap token
  pub ready : phase_of token.setup token.thread token.log ≡ Ready
  pub running : stage_of token.log ≢ done

-- the token is of this heap, and its thread is late and has not begun
pub record MayBegin (heap : Shared) (token : Holder) : Type 0 where
  pub of : IsOf heap token
  pub absent : phase_of token.setup token.thread token.log ≡ Absent

-- the same token, with this log
abbrev pub with_log : Holder → List Step → Holder
with_log token log = record { table = token.table; setup = token.setup; thread = token.thread; log = log }

-- after a call the token is the one before it, with this log
abbrev pub IsNow : Holder → List Step → Holder → Type 0
IsNow before log after = after ≡ with_log before log

-- the log is the thread's share of a run of the heap, and each result in it is a possible one
pub record IsOfRun (token : Holder) : Type 0 where
  pub run : List Event
  pub is_run : IsHeapRun token.setup run
  pub mine : log_of token.thread run ≡ token.log
  pub possible : IsPossibleLog token.setup token.log
