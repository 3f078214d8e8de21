-- What is told of watched threads that were served.
use Rattle.std.specs.Prelude.{ℕ, ◌≡◌, ◌<◌, List, ◌∷◌, length, Some, slice_get}
use Rattle.machine.specs.declared.frame.Frame.{Frame}
use Rattle.machine.specs.declared.frame_place.FramePlace.{FramePlace}
use Rattle.machine.specs.Endings.{ending}
use Rattle.machine.specs.Machine.{State}
use Rattle.mutators.specs.declared.thread_end.ThreadEnd.{ThreadEnd}
use Rattle.mutators.specs.Reports.{told}
use Rattle.program_runner.specs.Threads.{ProgramThread}
use Rattle.serving.specs.declared.serving.ServingEnd.{ServingEnd}
use Rattle.watched_serving.specs.declared.beside.WatchedJob.{WatchedJob}
use Rattle.watched_serving.specs.declared.breach.Breach.{Breach}
use Rattle.watched_serving.specs.declared.watching.WatchedEnd.TheVariants.{Kept, Broke}
use Rattle.watched_threads.specs.declared.report.BrokenThread.{BrokenThread}
use Rattle.watched_threads.specs.declared.report.ToldThreads.{ToldThreads}
use Rattle.watched_threads.specs.declared.report.ToldThreads.TheVariants.{Ends, Broken}

-- the thread's newest frame is at this place
pub record StandsAt (state : State) (at : FramePlace) : Type 0 where
  pub frame : Frame
  pub below : List Frame
  pub newest : state.frames ≡ frame ∷ below
  pub function : at.function ≡ frame.function
  pub block : at.block ≡ frame.block
  pub place : at.place ≡ frame.place

-- the thread broke nothing, and this is told of its end
pub record EndedSo (job : WatchedJob ProgramThread) (end : ThreadEnd) : Type 0 where
  pub outcome : ServingEnd
  pub kept : job.outcome ≡ Kept outcome
  pub is_told : end ≡ told outcome (ending job.machine.program job.machine.state)

-- it broke the discipline, for this reason
abbrev pub BrokeSo : WatchedJob ProgramThread → Breach → Type 0
BrokeSo job why = job.outcome ≡ Broke why

-- each that broke the discipline has a frame
abbrev pub HaveFrames : List (WatchedJob ProgramThread) → Type 0
HaveFrames jobs = (t : ℕ) (job : WatchedJob ProgramThread) (why : Breach) → slice_get jobs t ≡ Some job → BrokeSo job why → 0 < length job.machine.state.frames

-- this is told of the thread at each place before this one
abbrev pub EndedBefore : List (WatchedJob ProgramThread) → (ends : List ThreadEnd) → (thread : ℕ) → Type 0
EndedBefore jobs ends thread = (t : ℕ) (job : WatchedJob ProgramThread) → t < thread → slice_get jobs t ≡ Some job → (end : ThreadEnd) × (slice_get ends t ≡ Some end) × EndedSo job end

-- the first that broke the discipline, where, and why
pub record IsFirstBroken (jobs : List (WatchedJob ProgramThread)) (b : BrokenThread) : Type 0 where
  pub job : WatchedJob ProgramThread
  pub is : slice_get jobs b.thread ≡ Some job
  pub broke : BrokeSo job b.why
  pub at : StandsAt job.machine.state b.at
  pub ends : List ThreadEnd
  pub before : EndedBefore jobs ends b.thread

-- how each ended, or the first that broke the discipline
abbrev pub AreToldSo : List (WatchedJob ProgramThread) → ToldThreads → Type 0
AreToldSo jobs (Ends ends) = (length ends ≡ length jobs) × EndedBefore jobs ends (length jobs)
AreToldSo jobs (Broken b) = IsFirstBroken jobs b
