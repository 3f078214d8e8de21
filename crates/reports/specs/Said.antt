-- What a command says of its files, and where.
use Rattle.std.specs.Prelude.{◌≡◌, ◌++◌, ℕ, Bool, true, false, List, Option, Some}
use Rattle.std.specs.Io.KnownBytes.{Appends}
use Rattle.ir_ast.specs.declared.module.Module.{Module}
use Rattle.layout.specs.Layouts.{IsLayoutFault}
use Rattle.layout.specs.declared.fault.LayoutFault.{LayoutFault}
use Rattle.certs.specs.declared.certs.Certs.{Certs}
use Rattle.block_rules.specs.declared.block_fault.Refusal.{Refusal}
use Rattle.module_check.specs.Accepted.{IsFirstRefusal, shaped}
use Rattle.module_check.specs.Trusts.{to_trust}
use Rattle.reports.specs.Report.{Answer, IsTold, line_of, no, no_memory, of_layout_fault, yes}
use Rattle.reports.specs.Files.{HasModule, HasCerts, IsUncertified, of_unread}
use Rattle.reports.specs.declared.files.File.{File}
use Rattle.reports.specs.declared.files.ModuleFile.{ModuleFile}
use Rattle.reports.specs.declared.files.Unread.{Unread}
use Rattle.reports.specs.declared.outputs.Outputs.{Outputs}
use Rattle.reports.specs.declared.outputs.Results.{Results}

-- ---- what is said, and where

-- an answer on the standard output, a fault on the standard error, or both
pub data Said : Type 0 where
  OnOutput : Answer → Said
  OnError : Answer → Said
  -- and a text on the standard error besides
  OnBoth : Answer → List ℕ → Said

-- one of the outputs was given the text, the other one nothing or its own text, and the status is the answer's
abbrev pub Tells : (old new : Outputs) → (status : ℕ) → Said → Type 0
Tells old new status (OnOutput answer) = IsTold (Some old.out.items) (Some new.out.items) status answer × (new.err ≡ old.err)
Tells old new status (OnError answer) = (new.out ≡ old.out) × IsTold (Some old.err.items) (Some new.err.items) status answer
Tells old new status (OnBoth answer text) = IsTold (Some old.out.items) (Some new.out.items) status answer × Appends (Some old.err.items) (Some new.err.items) text

-- something was said that is one of these
abbrev pub Says : (Said → Type 0) → (old new : Outputs) → (status : ℕ) → Type 0
Says Meant old new status = (said : Said) × Meant said × Tells old new status said

-- something was said that is one of these, by what was saved before and after it
abbrev pub Saves : ((before after : List ℕ) → Said → Type 0) → (old new : Results) → (status : ℕ) → Type 0
Saves Meant old new status = Says (Meant old.saved.items new.saved.items) old.outputs new.outputs status

-- the bytes of the files that a command writes: of the first one, and of a certificate beside it
pub record Saved : Type 0 where
  pub file : List ℕ
  pub cert : List ℕ

-- those of these results
abbrev pub saved_in : Results → Saved
saved_in results = record { file = results.saved.items; cert = results.saved_cert.items }

-- some text follows, which may be empty
abbrev pub GivesText : (old new : List ℕ) → Type 0
GivesText old new = (text : List ℕ) × (new ≡ old ++ text)

-- so it is, if that is wanted
abbrev pub GivesTextIf : (wanted : Bool) → (old new : List ℕ) → Type 0
GivesTextIf true old new = GivesText old new
GivesTextIf false old new = new ≡ old

-- something was said that is one of these; and then some text may follow on the standard output, if steps are to be told, and on the
-- standard error, if a refusal is to be explained
abbrev pub SaysAndTells : (told explained : Bool) → (Said → Type 0) → (old new : Outputs) → (status : ℕ) → Type 0
SaysAndTells told explained Meant old new status =
    (said : Outputs) × Says Meant old said status × GivesTextIf told said.out.items new.out.items × GivesTextIf explained said.err.items new.err.items

-- ---- modules and certificates

-- what is said of a module that is accepted; or that memory was refused
pub data OfAccepted (m : Module) : Said → Type 0 where
  accepted_told : OfAccepted m (OnOutput (yes m (to_trust m)))
  accepted_not_told : OfAccepted m (OnError no_memory)

-- what is said of a module and its certificates that are not accepted: with the shapes of the certificates the first refusal, or the
-- fault of the layouts; or that memory was refused
pub data OfVerdict (m : Module) (certs : Certs) : Said → Type 0 where
  refused : (refusal : Refusal) → IsFirstRefusal (shaped m certs) certs.sections refusal
      → OfVerdict m certs (OnOutput (no m (line_of certs.sections m refusal.func refusal.detail) refusal))
  not_laid_out : (fault : LayoutFault) → IsLayoutFault (shaped m certs) fault → OfVerdict m certs (OnError (of_layout_fault m fault))
  not_checked : OfVerdict m certs (OnError no_memory)

-- what is said of the files of a module and its certificates, where this is said of them once they are read
pub data OfCertified (OfCerts : Module → Certs → Said → Type 0) (first : Option ModuleFile) (certificate : Option File) : Said → Type 0 where
  not_certified : (unread : Unread) → IsUncertified first certificate unread → OfCertified OfCerts first certificate (OnError (of_unread unread))
  of_certified : (m : Module) (certs : Certs) (said : Said) → HasModule first m → HasCerts certificate m certs → OfCerts m certs said
      → OfCertified OfCerts first certificate said
