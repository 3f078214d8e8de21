-- What `replay` says of its files, and the record that it saves.
use Rattle.std.specs.Prelude.{◌≡◌, ◌≢◌, ◌++◌, ℕ, Bool, true, false, List}
use Rattle.layout.specs.Layouts.{LaidOut}
use Rattle.runs.specs.ModuleRuns.{heap_of as events_of}
use Rattle.trace_text.specs.declared.trace.Trace.{Trace}
use Rattle.program_runner.specs.Setups.{HasNoFault, IsSetupFault}
use Rattle.program_runner.specs.declared.setup_fault.SetupFault.{SetupFault}
use Rattle.program_runner.specs.declared.setup_fault.SetupFault.TheVariants as setup
use Rattle.replay.specs.Lists.{actors_of, run_at}
use Rattle.replay.specs.Outcomes.{IsOutcome}
use Rattle.replay.specs.declared.outcome.Outcome.{Outcome}
use Rattle.replay.specs.declared.outcome.Outcome.TheVariants.{Broken, Sound}
use Rattle.step_records.specs.Recorded.{IsRecordOf}
use Rattle.reports.specs.Outcomes.{of_outcome, of_setup_fault}
use Rattle.reports.specs.Said.{Said, OnOutput, OnError}

-- how many steps of a trace its outcome is about: those up to the first one that breaks the run, or all
abbrev pub steps_to : Outcome → ℕ
steps_to (Broken b) = b.step
steps_to (Sound r) = r.steps

-- after these bytes comes the record of the steps of a trace that its outcome is about
abbrev pub IsRecorded : LaidOut → Trace → Outcome → (before after : List ℕ) → Type 0
IsRecorded p t outcome before after = (bytes : List ℕ) × (after ≡ before ++ bytes) × IsRecordOf (events_of (run_at p t.setup (actors_of t.steps) (steps_to outcome))) bytes

-- so it is, if that is wanted
abbrev pub IsRecordedIf : (wanted : Bool) → LaidOut → Trace → Outcome → (before after : List ℕ) → Type 0
IsRecordedIf true p t outcome before after = IsRecorded p t outcome before after
IsRecordedIf false p t outcome before after = Unit {0}

-- what `replay` says of a program and its trace: the outcome of the trace, of which the record is saved if that is wanted, the first thread
-- that may not begin, or out of memory. Before and after it these bytes are saved
pub data OfReplay (recorded : Bool) (p : LaidOut) (t : Trace) (before after : List ℕ) : Said → Type 0 where
  came : (outcome : Outcome) → HasNoFault p t.setup → IsOutcome p t outcome → IsRecordedIf recorded p t outcome before after → OfReplay recorded p t before after (OnOutput (of_outcome outcome))
  not_begun : (fault : SetupFault) → (fault ≢ setup.Memory → IsSetupFault p t.setup fault) → after ≡ before → OfReplay recorded p t before after (OnError (of_setup_fault fault))
