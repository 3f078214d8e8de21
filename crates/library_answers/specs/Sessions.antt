-- What is told of sessions.
use Rattle.std.specs.Prelude.{◌≡◌, ◌≢◌, ◌⊎◌, ℕ, Bool, List, Option}
use Rattle.ir_ast.specs.declared.module.Module.{Module}
use Rattle.certs.specs.declared.certs.Certs.{Certs}
use Rattle.certificate.specs.declared.fault.CertFault.{CertFault}
use Rattle.certificate.specs.declared.fault.CertFault.TheVariants as cert
use Rattle.module_check.specs.Accepted.{IsAccepted}
use Rattle.recheck.specs.Edits.{module_in}
use Rattle.recheck.specs.Session.{State}
use Rattle.recheck.specs.Text as edit_text
use Rattle.recheck.specs.declared.edit.Edit.{Edit}
use Rattle.check_commands.specs.Rechecks.{IsBegun, OfEdits, OfSession}
use Rattle.reports.specs.Files.{HasCerts, HasModule}
use Rattle.reports.specs.Report.{Answer as Line, of_edits_fault}
use Rattle.reports.specs.Said.{Said, OnError, OnOutput}
use Rattle.reports.specs.declared.files.File.{File}
use Rattle.reports.specs.declared.files.Files.{Files}
use Rattle.reports.specs.declared.files.ModuleFile.{ModuleFile}
use Rattle.library_answers.specs.declared.answer.Answer.{Answer}
use Rattle.library_answers.specs.Texts.{AreTexts}
use Rattle.library_answers.specs.Told.{IsAnswered, IsGiven, IsNoMemory, IsNoVerdict}

-- the session is one of the module and the certificates of these files
abbrev pub HasBegun : Option ModuleFile → Option File → State → Type 0
HasBegun first certificate s = (m : Module) × (certs : Certs) × HasModule first m × HasCerts certificate m certs × IsBegun m certs s

-- the session is one of the module and the certificates of these texts
abbrev pub IsBegunOf : (wide : Bool) (of_module cert : List ℕ) → State → Type 0
IsBegunOf wide of_module cert s = (files : Files) × AreTexts wide of_module cert files × HasBegun files.of_module files.certificate s

-- the module of a session is accepted with its certificates
abbrev pub IsAcceptedNow : State → Type 0
IsAcceptedNow s = IsAccepted (module_in s) s.certs.sections

-- the verdict on a session is said
abbrev pub IsOfSession : State → Said → Type 0
IsOfSession s said = (verdict : Line) × OfSession s verdict × (said ≡ OnOutput verdict)

-- a session of these texts begins and the verdict on it is told; or no verdict is told
abbrev pub IsOpened : (wide : Bool) (of_module cert old new : List ℕ) → Answer → Type 0
IsOpened wide of_module cert old new answer = ((s : State) × IsBegunOf wide of_module cert s × IsAnswered (IsOfSession s) old new answer) ⊎ IsNoVerdict answer

-- the status goes with the verdict on a session
abbrev pub IsStatusOf : State → (status : ℕ) → Type 0
IsStatusOf s status = (verdict : Line) × OfSession s verdict × (status ≡ verdict.status)

-- edits led from a session to another one, and a caller is told their lines and the status of the last verdict; or that memory was refused
abbrev pub IsEditedBy : List Edit → (s t : State) (old new : List ℕ) → Answer → Type 0
IsEditedBy edits s t old new answer =
    ((lines : List ℕ) × (status : ℕ) × OfEdits 1 s edits t lines × IsStatusOf t status × IsGiven status lines old new answer) ⊎ IsNoMemory old new answer

-- so did the edits of a text; or the text is none of edits, and the session stays
abbrev pub IsAppliedTo : (text : List ℕ) (s t : State) (old new : List ℕ) → Answer → Type 0
IsAppliedTo text s t old new answer =
    ((edits : List Edit) × edit_text.IsEdits text edits × IsEditedBy edits s t old new answer)
    ⊎ ((fault : CertFault) × (fault ≢ cert.Memory → edit_text.IsFault text fault) × (t ≡ s) × IsAnswered (λ said. said ≡ OnError (of_edits_fault fault)) old new answer)
