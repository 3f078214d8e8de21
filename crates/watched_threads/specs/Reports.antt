-- What is told of a watched run on real threads.
use Rattle.std.specs.Prelude.{ℕ, ◌<◌, List, length}
use Rattle.colours.specs.Runs.{Event, log_of, IsHeapRun}
use Rattle.layout.specs.Layouts.{LaidOut}
use Rattle.mutators.specs.declared.thread_end.ThreadEnd.{ThreadEnd}
use Rattle.mutators.specs.Reports.{IsReport, IsSafeRun, IsThreadEnd}
use Rattle.program_runner.specs.Heaps.{heap_of}
use Rattle.program_runner.specs.Setups.{starts_of}
use Rattle.program_runner.specs.Threads.{ProgramThread, program_machine}
use Rattle.serving.specs.declared.beside.Limits.{Limits}
use Rattle.trace_text.specs.declared.trace.Setup.{Setup}
use Rattle.watched_serving.specs.Endings.{IsBrokenAt}
use Rattle.watched_threads.specs.declared.report.BrokenThread.{BrokenThread}
use Rattle.watched_threads.specs.declared.report.ToldThreads.{ToldThreads}
use Rattle.watched_threads.specs.declared.report.ToldThreads.TheVariants as told
use Rattle.watched_threads.specs.declared.report.WatchReport.{WatchReport}
use Rattle.watched_threads.specs.declared.report.WatchReport.TheVariants.{Kept, Broken}
use Rattle.watched_threads.specs.Ends.{StandsAt}

-- In this run the thread did what its function asks for, up to an instruction at this place. It may not execute that one, for this
-- reason, and it ended there.
pub record BreaksIn (p : LaidOut) (setup : Setup) (run : List Event) (b : BrokenThread) : Type 0 where
  pub state : ProgramThread
  pub broken : IsBrokenAt (heap_of p setup) program_machine b.thread (starts_of p setup b.thread) b.why state (log_of b.thread run)
  pub at : StandsAt state.state b.at

-- There is one safe run of the heap, of which the steps of the threads and of the collector are the shares. This thread broke the
-- discipline, and none of a lower number did.
pub record IsBrokenReport (p : LaidOut) (setup : Setup) (limits : Limits) (b : BrokenThread) : Type 0 where
  pub run : List Event
  pub is_run : IsHeapRun (heap_of p setup) run
  pub safe : IsSafeRun (heap_of p setup) run
  pub is_thread : b.thread < length setup.starts
  pub breaks : BreaksIn p setup run b
  pub before : (t : ℕ) → t < b.thread → (end : ThreadEnd) × IsThreadEnd p setup limits.steps t (log_of t run) end

-- where no thread broke the discipline, the report is that of a run of a checked module
abbrev pub IsWatchReport : LaidOut → Setup → Limits → WatchReport → Type 0
IsWatchReport p setup limits (Kept report) = IsReport p setup limits report
IsWatchReport p setup limits (Broken b) = IsBrokenReport p setup limits b

-- what is told of threads that were served, and of the collector's turns and cycles
abbrev pub report_of : ToldThreads → (turns cycles : ℕ) → WatchReport
report_of (told.Ends ends) turns cycles = Kept (record { threads = ends; turns = turns; cycles = cycles })
report_of (told.Broken b) turns cycles = Broken b
