-- Bytes as the record of a run.
use Rattle.std.specs.Prelude.{ℕ, ◌≡◌, ◌≢◌, ◌≤◌, ◌^◌, ◌==◌, List, [], ◌∷◌, length, if◌then◌else◌}
use Rattle.colours.specs.Runs.{Event}
use Rattle.layout.specs.Layouts.{LaidOut}
use Rattle.moves.specs.declared.actor.Actor.{Actor}
use Rattle.runs.specs.ModuleRuns.{heap_of as events_of}
use Rattle.program_runner.specs.Setups.{IsSetupFault}
use Rattle.program_runner.specs.declared.setup_fault.SetupFault.TheVariants as fault
use Rattle.record_text.specs.declared.entry.Entry.{Entry}
use Rattle.record_text.specs.declared.steps.Recorded.{Recorded}
use Rattle.record_text.specs.Recorded.{recorded_of}
use Rattle.record_text.specs.Records.{AreKnown, run_of as run_said, roots_named}
use Rattle.record_text.specs.Written.{IsRecord}
use Rattle.replay.specs.Worlds.{IsAfter, run_of}
use Rattle.trace_text.specs.declared.trace.Setup.{Setup}
use Rattle.step_records.specs.declared.record_fault.RecordFault.{RecordFault}
use Rattle.step_records.specs.declared.record_fault.RecordFault.TheVariants.{Setup as OfSetup, TooLarge}
use Rattle.step_records.specs.declared.recording.RecordedWorld.{RecordedWorld}

-- entries, the newest first, say this run, and each thread has named these roots since its last answer
pub record Say (run : List Event) (named : ℕ → List ℕ) (entries : List Entry) : Type 0 where
  pub known : AreKnown entries
  pub says : run_said entries ≡ run
  pub names : (t : ℕ) → roots_named t entries ≡ named t

-- bytes are a record of entries that say so, and are not too many
pub record IsRecordWith (run : List Event) (named : ℕ → List ℕ) (bytes : List ℕ) : Type 0 where
  pub entries : List Entry
  pub is_record : IsRecord bytes entries
  pub few : length bytes ≤ 2 ^ 30
  pub say : Say run named entries

-- bytes are the record of a run, the newest step first: what is read of them is this run, and no root is named for an answer to come
abbrev pub IsRecordOf : (run : List Event) → (bytes : List ℕ) → Type 0
IsRecordOf run bytes = IsRecordWith run (λ t. []) bytes

-- the same where one thread has named these roots
abbrev pub HasNamed : (run : List Event) (thread : ℕ) (roots : List ℕ) (bytes : List ℕ) → Type 0
HasNamed run thread roots bytes = IsRecordWith run (λ t. if thread == t then roots else []) bytes

-- the bytes are a record of these entries and one more, which says this
pub record HasSaid (bytes : List ℕ) (entries : List Entry) (said : Recorded) : Type 0 where
  pub entry : Entry
  pub reads : recorded_of entry ≡ said
  pub is_record : IsRecord bytes (entry ∷ entries)
  pub few : length bytes ≤ 2 ^ 30

-- the world is the one after these actors, the newest first, and the record is that of the run that they made
pub record IsRecordedTo (p : LaidOut) (setup : Setup) (before : List Actor) (r : RecordedWorld) : Type 0 where
  pub program : r.world.program ≡ p
  pub setup_is : r.world.setup ≡ setup
  pub afterwards : IsAfter r.world before
  pub recorded : IsRecordOf (events_of (run_of p setup before)) r.bytes.items

-- what is told where there is no record: memory apart, of a setup it is a fault of its own
abbrev pub IsFaultOf : LaidOut → Setup → RecordFault → Type 0
IsFaultOf p setup (OfSetup e) = e ≢ fault.Memory → IsSetupFault p setup e
IsFaultOf p setup TooLarge = Unit {0}
