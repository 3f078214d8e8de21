-- The run that a record says. Entries are listed here with the newest first, as runs are.
use Rattle.std.specs.Prelude.{ℕ, ◌==◌, ◌≡◌, Option, Some, None, List, [], ◌∷◌, ◌++◌, if◌then◌else◌}
use Rattle.colours.specs.declared.turn.Turn.{Turn}
use Rattle.colours.specs.Steps as steps
use Rattle.colours.specs.Runs.{Event, ByThread, ByCollector}
use Rattle.record_text.specs.declared.entry.Entry.{Entry}
use Rattle.record_text.specs.declared.steps.ThreadStep.{ThreadStep}
use Rattle.record_text.specs.declared.steps.ThreadStep.TheVariants.{ReadWord, ReadOldValue, Mark, StoreAfterBarrier, StorePlain, Claim, ReadPosted, StoreStage, ReadPostedFirst, EnterStage, ReadPostedAgain}
use Rattle.record_text.specs.declared.steps.Recorded.{Recorded}
use Rattle.record_text.specs.declared.steps.Recorded.TheVariants.{Thread, Root, Collector, Unknown}
use Rattle.record_text.specs.Recorded.{recorded_of}

-- a thread's step as its log has it; an answer names these roots
abbrev pub step_with : (roots : List ℕ) → ThreadStep → steps.Step
step_with roots (ReadWord cell word value) = steps.ReadWord cell word value
step_with roots (ReadOldValue cell word value) = steps.ReadOldValue cell word value
step_with roots (Mark cell) = steps.Mark cell
step_with roots (StoreAfterBarrier cell word value) = steps.StoreAfterBarrier cell word value
step_with roots (StorePlain cell word value) = steps.StorePlain cell word value
step_with roots (Claim cell won) = steps.Claim cell won
step_with roots (ReadPosted stage) = steps.ReadPosted stage
step_with roots (StoreStage stage) = steps.StoreStage stage roots
step_with roots (ReadPostedFirst stage) = steps.ReadPostedFirst stage
step_with roots (EnterStage stage) = steps.EnterStage stage
step_with roots (ReadPostedAgain stage) = steps.ReadPostedAgain stage

-- the roots of a thread after a step: its answer has named them
abbrev pub roots_left : ThreadStep → List ℕ → List ℕ
roots_left (StoreStage stage) roots = []
roots_left step roots = roots

-- the roots that a thread has named since its last answer, after one thing more that is said
abbrev pub roots_after : (thread : ℕ) → Recorded → List ℕ → List ℕ
roots_after t (Thread u step) roots = if u == t then roots_left step roots else roots
roots_after t (Root u cell) roots = if u == t then roots ++ cell ∷ [] else roots
roots_after t (Collector turn) roots = roots
roots_after t Unknown roots = roots

-- the roots that a thread has named since its last answer, the first one first
abbrev pub roots_named : (thread : ℕ) → List Entry → List ℕ
roots_named t [] = []
roots_named t (entry ∷ entries) = roots_after t (recorded_of entry) (roots_named t entries)

-- the run with what is said after these entries
abbrev pub with_said : Recorded → List Entry → List Event → List Event
with_said (Thread t step) entries run = ByThread t (step_with (roots_named t entries) step) ∷ run
with_said (Root t cell) entries run = run
with_said (Collector turn) entries run = ByCollector turn ∷ run
with_said Unknown entries run = run

-- the run that entries say
unfoldable pub run_of : List Entry → List Event
run_of [] = []
run_of (entry ∷ entries) = with_said (recorded_of entry) entries (run_of entries)

-- the entry says something
abbrev pub IsKnown : Recorded → Type 0
IsKnown Unknown = ⊥
IsKnown _ = Unit {0}

-- so does each of these
abbrev pub AreKnown : List Entry → Type 0
AreKnown [] = Unit {0}
AreKnown (entry ∷ entries) = AreKnown entries × IsKnown (recorded_of entry)
