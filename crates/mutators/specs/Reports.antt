-- What is told of a run on real threads.
use Rattle.std.specs.Prelude.{ℕ, ◌≡◌, ◌<◌, ◌≤◌, ◌++◌, List, ◌∷◌, length, Some, slice_get}
use Rattle.pools.specs.Heap.{Setup as HeapSetup}
use Rattle.colours.specs.Runs.{Event, ByThread, log_of, turns_of, IsHeapRun, TouchesAlive}
use Rattle.colours.specs.Safety.{KeptIsAlive}
use Rattle.colours.specs.Steps.{Step}
use Rattle.layout.specs.Layouts.{LaidOut}
use Rattle.machine.specs.declared.ending.Ending.{Ending}
use Rattle.machine.specs.declared.ending.Ending.TheVariants as ending
use Rattle.machine.specs.Endings.{ending}
use Rattle.trace_sweep.specs.Cycles.{HasSwept}
use Rattle.runs.specs.RealThreads.{Left}
use Rattle.program_runner.specs.Heaps.{heap_of}
use Rattle.program_runner.specs.Threads.{ProgramThread, program_machine}
use Rattle.serving.specs.declared.beside.Job.{Job}
use Rattle.serving.specs.declared.beside.Limits.{Limits}
use Rattle.serving.specs.declared.serving.ServingEnd.{ServingEnd}
use Rattle.serving.specs.declared.serving.ServingEnd.TheVariants as outcome
use Rattle.serving.specs.Endings.{EndsSo}
use Rattle.program_runner.specs.Setups.{starts_of}
use Rattle.trace_text.specs.declared.trace.Setup.{Setup}
use Rattle.mutators.specs.declared.report.RunReport.{RunReport}
use Rattle.mutators.specs.declared.thread_end.ThreadEnd.{ThreadEnd}
use Rattle.mutators.specs.declared.thread_end.ThreadEnd.TheVariants.{Returned, Ended, Stopped, Memory, Absent}

-- what is told of a thread that was served so far, and that ends so if it asks for its end
abbrev pub told : ServingEnd → Ending → ThreadEnd
told outcome.Ended (ending.Returned result) = Returned result
told outcome.Ended ending.Over = Ended
told outcome.Stopped e = Stopped
told outcome.Memory e = Memory
told outcome.Absent e = Absent

-- how a thread ended that was served
abbrev pub end_of : Job ProgramThread → ThreadEnd
end_of job = told job.outcome (ending job.machine.program job.machine.state)

-- What a thread left is what its function asks for from its beginning, as far as it came, and this is told of it. One that returned
-- or ended went to its end; one that stopped, or never began, made at least as many moves as the limit says; one without memory is
-- finished, as far as it came.
pub record IsThreadEnd (p : LaidOut) (setup : Setup) (limit thread : ℕ) (log : List Step) (end : ThreadEnd) : Type 0 where
  pub left : Left (heap_of p setup) program_machine thread (starts_of p setup thread) log
  pub outcome : ServingEnd
  pub state : ProgramThread
  pub ends : EndsSo (heap_of p setup) program_machine thread (starts_of p setup thread) limit outcome state log
  pub told : end ≡ told outcome (ending state.program state.state)

-- At no moment of the run is a cell free, or claimed again, that a thread holds or that can be reached; and no step touches such a cell.
pub record IsSafeRun (s : HeapSetup) (run : List Event) : Type 0 where
  pub kept : (after before : List Event) → run ≡ after ++ before → KeptIsAlive s before
  pub touched : (after before : List Event) (thread : ℕ) (step : Step) → run ≡ after ++ ByThread thread step ∷ before → TouchesAlive s before thread step

-- There is one safe run of the heap, of which the steps of the threads and of the collector are the shares.
pub record IsReport (p : LaidOut) (setup : Setup) (limits : Limits) (report : RunReport) : Type 0 where
  pub run : List Event
  pub is_run : IsHeapRun (heap_of p setup) run
  pub safe : IsSafeRun (heap_of p setup) run
  pub one_each : length report.threads ≡ length setup.starts
  pub threads : (t : ℕ) (end : ThreadEnd) → slice_get report.threads t ≡ Some end → IsThreadEnd p setup limits.steps t (log_of t run) end
  pub turns : length (turns_of run) ≡ report.turns
  pub within : report.turns ≤ limits.turns
  pub first : 0 < limits.turns → 0 < report.turns
  pub cycles : HasSwept (heap_of p setup) (turns_of run) report.cycles
