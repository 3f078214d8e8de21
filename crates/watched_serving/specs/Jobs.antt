-- Watched threads that are served beside one another and the collector.
use Rattle.std.specs.Prelude.{ℕ}
use Rattle.pools.specs.Heap.{Setup}
use Rattle.runs.specs.Machine.{Machine}
use Rattle.runs.specs.RealThreads.{Left}
use Rattle.heap_words.specs.Tokens.{Shared}
use Rattle.heap_table.specs.Holders.{Holder, IsNow}
use Rattle.watched_serving.specs.declared.beside.WatchedJob.{WatchedJob}
use Rattle.watched_serving.specs.Serving.{MayBeServed}
use Rattle.watched_serving.specs.Endings.{EndsSo}

-- a thread's token
abbrev pub token_of : {State : Type 0} → WatchedJob State → Holder
token_of job = job.me

-- the thread may be served
abbrev pub MayBegin : (m : Machine) (Fits : Setup → m.State → Type 0) → Shared → WatchedJob m.State → Type 0
MayBegin m Fits heap job = MayBeServed m Fits heap job.me job.is_late job.machine

-- it was served: what it left is a share that its machine asks for, and its outcome says how far
pub record WasServed (m : Machine) (limit : ℕ) (before after : WatchedJob m.State) : Type 0 where
  pub token : IsNow before.me after.me.log after.me
  pub left : Left before.me.setup m before.me.thread before.machine after.me.log
  pub end : EndsSo before.me.setup m before.me.thread before.machine limit after.outcome after.machine after.me.log
