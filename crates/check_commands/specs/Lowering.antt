-- What `lower` says of its files.
use Rattle.std.specs.Prelude.{◌≡◌, ◌⊎◌, ℕ, Bool, Option, Some, None, codes}
use Rattle.ir_ast.specs.declared.module.Module.{Module}
use Rattle.copies.specs.Opaque.{opaque_module}
use Rattle.layout.specs.Layouts.{LaidOut}
use Rattle.certs.specs.declared.certs.Certs.{Certs}
use Rattle.module_check.specs.Accepted.{IsProgramCertified, shaped}
use Rattle.lowering.specs.Lowered.{lowered_text}
use Rattle.lowering.specs.Outside.{address_giver}
use Rattle.reports.specs.Report.{Answer, made_text, no_memory, of_address_given}
use Rattle.reports.specs.Files.{HasProgram, IsNoProgram, kept, of_unread}
use Rattle.reports.specs.Said.{Said, OnOutput, OnError, OnBoth, OfCertified, OfVerdict}
use Rattle.reports.specs.declared.files.File.{File}
use Rattle.reports.specs.declared.files.ModuleFile.{ModuleFile}
use Rattle.reports.specs.declared.files.Unread.{Unread}

-- the text that LLVM gets of a laid out program: of its module with `ptr` for each pointer
abbrev pub of_lowered : (recorded : Bool) → LaidOut → Answer
of_lowered recorded p = made_text (lowered_text recorded p.layouts (opaque_module p.of_module))

-- what is said of a module that has this function outside which gives an address: its name; of another one, what is said of its lowered text
abbrev pub unless_given : (giver : Option ℕ) → Module → (lowered : Said) → Said
unless_given None m lowered = lowered
unless_given (Some symbol) m lowered = OnError (of_address_given m symbol)

-- this is said, or that memory was refused
abbrev pub OfMade : (made : Said) → Said → Type 0
OfMade made said = (said ≡ made) ⊎ (said ≡ OnError no_memory)

-- what is said of an accepted program: the text that LLVM gets, unless a function outside gives an address; or that memory was refused
abbrev pub OfProgram : (recorded : Bool) → LaidOut → Said → Type 0
OfProgram recorded p = OfMade (unless_given (address_giver p.of_module) p.of_module (OnOutput (of_lowered recorded p)))

-- the text that LLVM gets of a program that nothing checks
abbrev pub unchecked_text : (recorded : Bool) → LaidOut → Said
unchecked_text recorded p = OnBoth (of_lowered recorded p) (codes "nothing was checked\n")

-- what is said of a module and its certificates: why they are not accepted, or what is said of the program that they are
pub data OfLowered (recorded : Bool) (m : Module) (certs : Certs) : Said → Type 0 where
  not_lowered : (said : Said) → OfVerdict m certs said → OfLowered recorded m certs said
  lowered : (p : LaidOut) (said : Said) → p.of_module ≡ shaped m certs → IsProgramCertified p certs.sections → OfProgram recorded p said → OfLowered recorded m certs said

-- what is said of the files of a module and its shapes, which nothing checks: the text that LLVM gets, and on the standard error that nothing was
-- checked, unless a function outside gives an address; why they are no program; or that memory was refused
pub data OfUnchecked (recorded : Bool) (first : Option ModuleFile) (shapes : Option File) : Said → Type 0 where
  no_program : (unread : Unread) → IsNoProgram first shapes unread → OfUnchecked recorded first shapes (OnError (of_unread unread))
  unchecked : (p : LaidOut) → HasProgram first shapes p → OfUnchecked recorded first shapes (unless_given (address_giver p.of_module) p.of_module (unchecked_text recorded p))
  not_unchecked : OfUnchecked recorded first shapes (OnError no_memory)

-- what is said of the files of a module and, where they are given, of its certificates or its shapes
abbrev pub OfLowerGiven : (recorded : Bool) → (first : Option ModuleFile) → (certificate shapes : Option File) → Said → Type 0
OfLowerGiven recorded first None shapes = OfUnchecked recorded first shapes
OfLowerGiven recorded first (Some certificate) shapes = OfCertified (OfLowered recorded) first (Some certificate)

-- the same where all of the module is to be kept
abbrev pub OfLower : (recorded : Bool) → (first : Option ModuleFile) → (certificate shapes : Option File) → Said → Type 0
OfLower recorded first certificate shapes = OfLowerGiven recorded (kept first) certificate shapes
