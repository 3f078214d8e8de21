-- The watched threads of a setup with their tokens, before their first steps.
use Rattle.std.specs.Prelude.{ℕ, ◌≡◌, List, Some, slice_get}
use Rattle.layout.specs.Layouts.{LaidOut}
use Rattle.heap_words.specs.Tokens.{Shared}
use Rattle.heap_table.specs.Holders.{IsOf}
use Rattle.program_runner.specs.Kinds.{FitsThread}
use Rattle.program_runner.specs.Setups.{starts_of, new_thread}
use Rattle.program_runner.specs.Threads.{ProgramThread, program_machine}
use Rattle.stepping.specs.declared.beginning.NewThread.{NewThread}
use Rattle.trace_text.specs.declared.trace.Setup.{Setup}
use Rattle.trace_text.specs.declared.trace.Start.{Start}
use Rattle.watched_serving.specs.declared.beside.WatchedJob.{WatchedJob}
use Rattle.watched_serving.specs.Jobs.{MayBegin}

-- the thread with this number begins so
abbrev pub BeginsAs : LaidOut → Setup → (thread : ℕ) → NewThread ProgramThread → Type 0
BeginsAs p setup t thread = (begun : Start) × (slice_get setup.starts t ≡ Some begun) × (thread ≡ new_thread p setup begun)

-- it is the thread with this number, at the beginning of its function, and the heap may serve it
pub record IsJobOf (p : LaidOut) (setup : Setup) (heap : Shared) (thread : ℕ) (job : WatchedJob ProgramThread) : Type 0 where
  pub of : IsOf heap job.me
  pub number : job.me.thread ≡ thread
  pub machine : job.machine ≡ starts_of p setup thread
  pub may : MayBegin program_machine FitsThread heap job

-- each is the thread with the number of its place
abbrev pub AreJobs : LaidOut → Setup → Shared → List (WatchedJob ProgramThread) → Type 0
AreJobs p setup heap jobs = (t : ℕ) (job : WatchedJob ProgramThread) → slice_get jobs t ≡ Some job → IsJobOf p setup heap t job
