-- What `check` and `make` say of their files.
use Rattle.std.specs.Prelude.{◌≡◌, ◌++◌, List, [], ◌∷◌, ℕ, Option, Some, None, true, length, take, codes}
use Rattle.std.specs.Fmt.{decimal}
use Rattle.std.specs.List.{flat_map}
use Rattle.ir_ast.specs.declared.module.Module.{Module}
use Rattle.layout.specs.Layouts.{AreLayouts, AreSizes, IsLayoutFault, LaidOut}
use Rattle.layout.specs.declared.fault.LayoutFault.{LayoutFault}
use Rattle.certs.specs.Fits.{fits}
use Rattle.certs.specs.declared.certs.Certs.{Certs}
use Rattle.certs.specs.declared.section.Section.{Section}
use Rattle.certificate.specs.Print.{cert_text}
use Rattle.cert_maker.specs.Made.{IsPlainlyRefused}
use Rattle.cert_maker.specs.Trusting.{trusting}
use Rattle.block_rules.specs.declared.block_fault.Refusal.{Refusal}
use Rattle.module_check.specs.Accepted.{IsAccepted, IsFirstRefusal, shaped}
use Rattle.module_check.specs.Trusts.{to_trust}
use Rattle.command_line.specs.declared.options.Refusals.{Refusals}
use Rattle.command_line.specs.declared.options.Refusals.TheVariants.{First, OfBlocks}
use Rattle.command_line.specs.declared.options.Why.{Why}
use Rattle.command_line.specs.declared.options.Why.TheVariants.{Wanted}
use Rattle.module_check.specs.Refusals.{AreOfFunctions}
use Rattle.reports.specs.Report.{Answer, line_of, made_text, no, no_answer, no_memory, of_layout_fault, yes}
use Rattle.reports.specs.Files.{HasShaped, IsNoShaped, of_unread}
use Rattle.reports.specs.Said.{Said, OnOutput, OnError, OnBoth, OfVerdict}
use Rattle.reports.specs.declared.files.File.{File}
use Rattle.reports.specs.declared.files.ModuleFile.{ModuleFile}
use Rattle.reports.specs.declared.files.Unread.{Unread}

-- ---- check

-- the line of a refusal
abbrev pub line_of_no : Module → List Section → Refusal → List ℕ
line_of_no m certs refusal = (no m (line_of certs m refusal.func refusal.detail) refusal).text

-- the lines of refusals
abbrev pub lines_of : Module → List Section → List Refusal → List ℕ
lines_of m certs refusals = flat_map (line_of_no m certs) refusals

-- the lines of the first refusals, up to the limit, and how many there are
abbrev pub all_refused : Module → List Section → (limit : ℕ) → List Refusal → Answer
all_refused m certs limit refusals = record {
  text = lines_of m certs (take limit refusals) ++ codes "refusals " ++ decimal (length refusals) ++ 10 ∷ [];
  status = 1;
}

-- what is said of a laid out program that is refused: the first refusal of each block that is not certified; or that memory was refused
pub data OfRefusals (limit : ℕ) (program : LaidOut) (certs : List Section) : Said → Type 0 where
  refusals_told : (refusals : List Refusal) → AreOfFunctions program certs (length program.of_module.functions) refusals
      → OfRefusals limit program certs (OnOutput (all_refused program.of_module certs limit refusals))
  refusals_not_told : OfRefusals limit program certs (OnError no_memory)

-- what is said of a laid out program that is refused, by what is refused of it; none is said where memory was refused
abbrev pub OfRejected : (limit : ℕ) → LaidOut → List Section → Option (List Refusal) → Said → Type 0
OfRejected limit program certs None said = said ≡ OnError no_memory
OfRejected limit program certs (Some refusals) said = OfRefusals limit program certs said

-- what is said of a module and its certificates that are not accepted, where all blocks are asked for: the refusals of the program that it
-- is with the shapes of the certificates; the fault of the layouts; or that memory was refused
pub data OfAll (limit : ℕ) (m : Module) (certs : Certs) : Said → Type 0 where
  all_told : (refusal : Refusal) (program : LaidOut) (said : Said) → IsFirstRefusal (shaped m certs) certs.sections refusal
      → program.of_module ≡ shaped m certs → AreLayouts (shaped m certs) program.layouts → AreSizes (shaped m certs) program.sizes
      → OfRefusals limit program certs.sections said → OfAll limit m certs said
  all_not_laid_out : (fault : LayoutFault) → IsLayoutFault (shaped m certs) fault → OfAll limit m certs (OnError (of_layout_fault m fault))
  all_not_checked : OfAll limit m certs (OnError no_memory)

-- the same, where this many refusals are asked for
abbrev pub OfUnaccepted : Refusals → Module → Certs → Said → Type 0
OfUnaccepted First m certs said = OfVerdict m certs said
OfUnaccepted (OfBlocks limit) m certs said = OfAll limit m certs said

-- what is said of a module and its certificates: that it is accepted with their shapes and which functions outside are trusted, or why not
pub data OfCerts (refusals : Refusals) (m : Module) (certs : Certs) : Said → Type 0 where
  accepted : IsAccepted (shaped m certs) certs.sections → OfCerts refusals m certs (OnOutput (yes (shaped m certs) (to_trust (shaped m certs))))
  not_accepted : (said : Said) → OfUnaccepted refusals m certs said → OfCerts refusals m certs said

-- ---- make

-- what is said of a module for which certificates are made, while it trusts the functions outside that it calls: some that fit it, have its
-- shapes, trust what it trusts, list its numbers of layouts, and with which it is accepted; that there are none, as the plain ones are refused, and if asked for the first
-- refusal with some that fit it; the fault of the layouts; or that memory was refused
pub data OfMade (why : Why) (m : Module) : Said → Type 0 where
  made : (certs : Certs) → fits (trusting m) certs.sections ≡ true → certs.shapes ≡ m.shapes → certs.foreign ≡ (trusting m).trusted → IsAccepted (trusting m) certs.sections
      → OfMade why m (OnOutput (made_text (cert_text certs (trusting m))))
  none_made : IsPlainlyRefused (trusting m) → OfMade why m (OnOutput no_answer)
  none_made_why : (certs : List Section) (refusal : Refusal) → why ≡ Wanted → IsPlainlyRefused (trusting m) → fits (trusting m) certs ≡ true → IsFirstRefusal (trusting m) certs refusal
      → OfMade why m (OnBoth no_answer (no m (line_of certs m refusal.func refusal.detail) refusal).text)
  without_layouts : (fault : LayoutFault) → IsLayoutFault (trusting m) fault → OfMade why m (OnError (of_layout_fault m fault))
  not_made : OfMade why m (OnError no_memory)

-- what is said of the files of a module and its shapes
pub data OfMake (why : Why) (first : Option ModuleFile) (shapes : Option File) : Said → Type 0 where
  no_module : (unread : Unread) → IsNoShaped first shapes unread → OfMake why first shapes (OnError (of_unread unread))
  of_module : (m : Module) (said : Said) → HasShaped first shapes m → OfMade why m said → OfMake why first shapes said
