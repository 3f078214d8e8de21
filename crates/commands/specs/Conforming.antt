-- What `conform` says of its files: the lines that a record is told by.
use Rattle.std.specs.Prelude.{◌≡◌, ◌≢◌, ◌≤◌, ◌^◌, ◌++◌, if◌then◌else◌, nat_eq, ℕ, List, [], ◌∷◌, Option, Some, codes, length}
use Rattle.std.specs.Fmt.{decimal}
use Rattle.layout.specs.Layouts.{LaidOut}
use Rattle.trace_text.specs.declared.trace.Trace.{Trace}
use Rattle.program_runner.specs.Heaps.{heap_of}
use Rattle.program_runner.specs.Setups.{HasNoFault, IsSetupFault}
use Rattle.program_runner.specs.declared.setup_fault.SetupFault.{SetupFault}
use Rattle.program_runner.specs.declared.setup_fault.SetupFault.TheVariants as setup
use Rattle.record_text.specs.Entries.{entries_of}
use Rattle.conform.specs.Verdicts.{IsVerdict}
use Rattle.conform.specs.declared.rule.Rule.{Rule}
use Rattle.conform.specs.declared.rule.Rule.TheVariants as rule
use Rattle.conform.specs.declared.verdict.Verdict.{Verdict}
use Rattle.conform.specs.declared.verdict.Verdict.TheVariants.{Conforms, Broken}
use Rattle.reports.specs.Files.{bytes_of, path_of}
use Rattle.reports.specs.Outcomes.{of_setup_fault}
use Rattle.reports.specs.Report.{Answer, no_file}
use Rattle.reports.specs.Said.{Said, OnOutput, OnError}
use Rattle.reports.specs.declared.files.File.{File}

-- ---- the lines

-- the code of a rule
abbrev pub code_of : Rule → List ℕ
code_of rule.NoStep = codes "H1"
code_of rule.Order = codes "H2"
code_of rule.Value = codes "H3"
code_of rule.UnmarkedStore = codes "H4"
code_of rule.UnmarkedRoots = codes "H5"
code_of rule.Stage = codes "H6"
code_of rule.NotHeld = codes "H7"
code_of rule.Word = codes "H8"
code_of rule.StoredValue = codes "H9"
code_of rule.NotFresh = codes "H10"
code_of rule.RootNotHeld = codes "H11"
code_of rule.Try = codes "H12"
code_of rule.Look = codes "H13"
code_of rule.Sweep = codes "H14"
code_of rule.Post = codes "H15"
code_of rule.Turn = codes "H16"

-- an actor as a record has it: 255 is the collector
abbrev pub actor_text : ℕ → List ℕ
actor_text actor = if nat_eq actor 255 then codes "c" else (codes "t " ++ decimal actor)

-- the first step that does not conform: its number, its actor, and the code of the rule that it breaks
abbrev pub of_broken : (step actor : ℕ) → (code : List ℕ) → Answer
of_broken step actor code = record { text = codes "no " ++ decimal step ++ 32 ∷ actor_text actor ++ 32 ∷ code ++ 10 ∷ []; status = 1 }

-- how many steps conform, or the first step that does not
abbrev pub of_verdict : Verdict → Answer
of_verdict (Conforms steps) = record { text = codes "conforms " ++ decimal steps ++ 10 ∷ []; status = 0 }
of_verdict (Broken step actor rule) = of_broken step actor (code_of rule)

-- ---- the file

-- the file holds these bytes, which are at most 2^30
abbrev pub HasRecord : Option File → List ℕ → Type 0
HasRecord file bytes = (bytes_of file ≡ Some bytes) × (length bytes ≤ 2 ^ 30)

-- what is said of the file of a record, beside a program and a trace of it: that it cannot be read or is too long, the first thread that may
-- not begin, out of memory, or the verdict on its entries
pub data OfRecord (file : Option File) (p : LaidOut) (t : Trace) : Said → Type 0 where
  no_record : ((bytes : List ℕ) → ¬ HasRecord file bytes) → OfRecord file p t (OnError (no_file (path_of file)))
  not_begun : (fault : SetupFault) → (fault ≢ setup.Memory → IsSetupFault p t.setup fault) → OfRecord file p t (OnError (of_setup_fault fault))
  judged : (bytes : List ℕ) (verdict : Verdict) → HasRecord file bytes → HasNoFault p t.setup → IsVerdict (heap_of p t.setup) (entries_of bytes) verdict
      → OfRecord file p t (OnOutput (of_verdict verdict))
