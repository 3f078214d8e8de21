-- What is told of a record.
use Rattle.std.specs.Prelude.{ℕ, suc, ◌≡◌, Option, Some, None, List, [], ◌∷◌, ◌++◌, length, reverse, nat_lt, slice_get, slice_set, get_or, if◌then◌else◌}
use Rattle.pools.specs.Heap.{Setup}
use Rattle.colours.specs.Runs.{Event, IsHeapRun}
use Rattle.colours.specs.Safety.{KeptIsAlive}
use Rattle.record_text.specs.declared.entry.Entry.{Entry}
use Rattle.record_text.specs.declared.steps.ThreadStep.{ThreadStep}
use Rattle.record_text.specs.declared.steps.Recorded.{Recorded}
use Rattle.record_text.specs.declared.steps.Recorded.TheVariants.{Thread, Root, Collector, Unknown}
use Rattle.record_text.specs.Recorded.{recorded_of}
use Rattle.record_text.specs.Records.{AreKnown, run_of, roots_named, roots_left, step_with}
use Rattle.colours.specs.Runs.{ByThread, ByCollector}
use Rattle.conform.specs.declared.rule.Rule.{Rule}
use Rattle.conform.specs.declared.rule.Rule.TheVariants as rule
use Rattle.conform.specs.declared.verdict.Verdict.{Verdict}
use Rattle.conform.specs.declared.verdict.Verdict.TheVariants.{Conforms, Broken}
use Rattle.conform.specs.declared.record_check.RecordCheck.{RecordCheck}
use Rattle.conform.specs.Rules.{Breaks}
use Rattle.conform.specs.Checks.{IsCheckAfter}

-- Entries, the newest first: each says something, and they say a run of the profile whose threads keep the discipline.
pub record IsConforming (s : Setup) (entries : List Entry) : Type 0 where
  pub known : AreKnown entries
  pub is_run : IsHeapRun s (run_of entries)

-- what an entry says after others breaks the rule
abbrev pub BreaksRule : Setup → List Entry → Recorded → Rule → Type 0
BreaksRule s entries (Thread t step) r = Breaks r s (run_of entries) (ByThread t (step_with (roots_named t entries) step))
BreaksRule s entries (Collector turn) r = Breaks r s (run_of entries) (ByCollector turn)
BreaksRule s entries (Root t cell) r = ⊥
BreaksRule s entries Unknown r = r ≡ rule.NoStep

-- the first entry that breaks a rule: those before it conform, and with it they do not
pub record IsFirstBroken (s : Setup) (entries : List Entry) (step by : ℕ) (r : Rule) : Type 0 where
  pub before : List Entry  -- the newest first
  pub entry : Entry
  pub after : List Entry
  pub all : entries ≡ reverse before ++ entry ∷ after
  pub conforming : IsConforming s before
  pub not_with : ¬ IsConforming s (entry ∷ before)
  pub number : step ≡ suc (length (run_of before))
  pub actor : by ≡ entry.actor
  pub breaks : BreaksRule s before (recorded_of entry) r

-- What is told of entries, the first one first. Where they conform, no kept cell was freed at any moment of the run.
abbrev pub IsVerdict : Setup → List Entry → Verdict → Type 0
IsVerdict s entries (Conforms steps) =
    IsConforming s (reverse entries) × (steps ≡ length (run_of (reverse entries)))
    × ((after before : List Event) → run_of (reverse entries) ≡ after ++ before → KeptIsAlive s before)
IsVerdict s entries (Broken step actor r) = IsFirstBroken s entries step actor r

-- the first step that breaks a rule was met
abbrev pub IsMet : Setup → List Entry → Verdict → Type 0
IsMet s entries (Conforms steps) = ⊥
IsMet s entries (Broken step actor r) = IsFirstBroken s entries step actor r

-- these are the roots that the threads have named since their last answers
pub record AreNamed (s : Setup) (entries : List Entry) (roots : List (List ℕ)) : Type 0 where
  pub long : length roots ≡ s.threads
  pub each : (t : ℕ) (x : List ℕ) → slice_get roots t ≡ Some x → x ≡ roots_named t entries

-- with one more of a thread
abbrev pub with_root : (roots : List (List ℕ)) → (thread cell : ℕ) → List (List ℕ)
with_root roots thread cell = if nat_lt thread (length roots) then slice_set roots thread (get_or roots thread [] ++ cell ∷ []) else roots

-- after a step of a thread: its answer has named them
abbrev pub with_step : (roots : List (List ℕ)) → (thread : ℕ) → ThreadStep → List (List ℕ)
with_step roots thread step = slice_set roots thread (roots_left step (get_or roots thread []))

-- each of these entries, the newest first, says something, and what they say conforms
pub record IsReadTo (s : Setup) (entries : List Entry) (v : RecordCheck) : Type 0 where
  pub known : AreKnown entries
  pub run : IsCheckAfter s (run_of entries) v.run
  pub roots : AreNamed s entries v.roots.items
  pub steps : v.steps ≡ length (run_of entries)

-- what is told of what an entry says after these
abbrev pub IsRead : Setup → List Entry → Recorded → (old new : RecordCheck) → Option Rule → Type 0
IsRead s entries said old new None = (entry : Entry) → recorded_of entry ≡ said → IsReadTo s (entry ∷ entries) new
IsRead s entries said old new (Some r) = BreaksRule s entries said r × (new.steps ≡ old.steps)

-- the record is checked as far as these entries, the newest first
abbrev pub IsCheckedTo : Setup → List Entry → RecordCheck → Option Verdict → Type 0
IsCheckedTo s entries v None = IsReadTo s entries v
IsCheckedTo s entries v (Some told) = IsMet s (reverse entries) told

-- the record is checked as far as these entries, with the verdict that the check holds
abbrev pub IsChecked : Setup → List Entry → RecordCheck → Type 0
IsChecked s entries v = IsCheckedTo s entries v v.broken
