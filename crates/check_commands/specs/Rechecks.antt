-- The lines that a session is printed as while it is edited.
use Rattle.std.specs.Prelude.{◌≡◌, ◌≢◌, ◌+◌, ◌++◌, ℕ, List, [], ◌∷◌, Option, Some, None, codes}
use Rattle.std.specs.Fmt.{decimal}
use Rattle.explain.specs.Codes.{name_of}
use Rattle.explain.specs.declared.code.Code.{Code}
use Rattle.fault_codes.specs.FaultCodes.{edit_code}
use Rattle.ir_ast.specs.declared.module.Module.{Module}
use Rattle.certs.specs.declared.certs.Certs.{Certs}
use Rattle.recheck.specs.declared.edit.Edit.{Edit}
use Rattle.block_rules.specs.declared.block_fault.Refusal.{Refusal}
use Rattle.module_check.specs.Accepted.{IsAccepted, IsFirstRefusal, shaped}
use Rattle.recheck.specs.Edits.{IsEdited, IsEditFault, module_in}
use Rattle.recheck.specs.Session.{State}
use Rattle.recheck.specs.declared.edit_fault.EditFault.{EditFault}
use Rattle.recheck.specs.declared.edit_fault.EditFault.TheVariants as edit
use Rattle.reports.specs.Report.{Answer, line_of, no, no_memory, yes_again}

-- ---- faults by their codes

-- the code of a fault, or what stands in its place where memory was refused
abbrev pub code_text : Option Code → List ℕ
code_text (Some code) = name_of code
code_text None = codes "memory"

-- ---- lines

-- the line of an edit that is accepted: its number, how many functions it concerns, and the verdict after it
abbrev pub accepted_text : (number rechecked : ℕ) → (verdict : Answer) → List ℕ
accepted_text number rechecked verdict = decimal number ++ codes " rechecked " ++ decimal rechecked ++ 32 ∷ verdict.text

-- the line of an edit that is refused
abbrev pub refused_text : (number : ℕ) → EditFault → List ℕ
refused_text number fault = decimal number ++ codes " refused " ++ code_text (edit_code fault) ++ 10 ∷ []

-- ---- sessions

-- a session begins with this module, which has the shapes of the certificates and trusts what they trust, and with these
pub record IsBegun (m : Module) (certs : Certs) (s : State) : Type 0 where
  pub of_module : module_in s ≡ shaped m certs
  pub of_certs : s.certs ≡ certs
  pub none_checked : s.rechecked ≡ 0

-- what is printed of the verdict on a session: that its module is accepted, with how many functions outside are trusted, or its first refusal
pub data OfSession (s : State) : Answer → Type 0 where
  session_accepted : IsAccepted (module_in s) s.certs.sections → OfSession s (yes_again (module_in s))
  session_refused : (refusal : Refusal) → IsFirstRefusal (module_in s) s.certs.sections refusal
      → OfSession s (no (module_in s) (line_of s.certs.sections (module_in s) refusal.func refusal.detail) refusal)

-- the session after the edit of this number, and the line that is printed of it: the edit is accepted; or it is refused, and the session stays
pub data OfEdit (number : ℕ) (s : State) (e : Edit) : (t : State) → (line : List ℕ) → Type 0 where
  edit_accepted : (t : State) (verdict : Answer) → IsEdited s e t → OfSession t verdict → OfEdit number s e t (accepted_text number t.rechecked verdict)
  edit_refused : (fault : EditFault) → fault ≢ edit.Memory → IsEditFault s e fault → OfEdit number s e s (refused_text number fault)

-- the session after edits, the first of which has this number, and the lines that are printed of them
abbrev pub OfEdits : (number : ℕ) → State → List Edit → (t : State) → (lines : List ℕ) → Type 0
OfEdits number s [] t lines = (s ≡ t) × (lines ≡ [])
OfEdits number s (e ∷ edits) t lines =
    (next : State) × (line : List ℕ) × (rest : List ℕ) × OfEdit number s e next line × OfEdits (number + 1) next edits t rest × (lines ≡ line ++ rest)
