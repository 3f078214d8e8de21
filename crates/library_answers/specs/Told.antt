-- What a caller of the library is told: the status and the text of what the program says of the same files.
use Rattle.std.specs.Prelude.{◌≡◌, ◌≢◌, ◌⊎◌, ◌<◌, ◌++◌, ◌∷◌, ◌-◌, ◌^◌, ℕ, List, Option, length, take, drop}
use Rattle.std.specs.Fmt.{decimal}
use Rattle.ir_ast.specs.declared.module.Module.{Module}
use Rattle.certs.specs.declared.certs.Certs.{Certs}
use Rattle.block_rules.specs.RuleNames.{rule_name}
use Rattle.block_rules.specs.declared.block_fault.Refusal.{Refusal}
use Rattle.module_check.specs.Accepted.{IsAccepted, IsFirstRefusal, shaped}
use Rattle.reports.specs.Files.{HasCerts, HasModule}
use Rattle.reports.specs.Report.{no_memory}
use Rattle.reports.specs.Said.{Said, OnOutput, OnError, OnBoth}
use Rattle.reports.specs.declared.files.File.{File}
use Rattle.reports.specs.declared.files.ModuleFile.{ModuleFile}
use Rattle.library_answers.specs.declared.answer.Answer.{Answer}
use Rattle.library_answers.specs.declared.place.Place.{Place}

-- ---- what is said

-- the text of what is said, that of the standard output first
abbrev pub text_of : Said → List ℕ
text_of (OnOutput answer) = answer.text
text_of (OnError answer) = answer.text
text_of (OnBoth answer text) = answer.text ++ text

-- the status with which the program ends after it
abbrev pub status_of : Said → ℕ
status_of (OnOutput answer) = answer.status
status_of (OnError answer) = answer.status
status_of (OnBoth answer text) = answer.status

-- ---- the room

-- as much of a text as fits was copied into a room, and what lies behind it stays
abbrev pub IsCopied : (text old new : List ℕ) → Type 0
IsCopied text old new = new ≡ take (length old) text ++ drop (length text) old

-- a caller is told this status and this text
pub record IsGiven (status : ℕ) (text old new : List ℕ) (answer : Answer) : Type 0 where
  pub status_given : answer.status ≡ status
  pub length_given : answer.length ≡ length text
  pub copied : IsCopied text old new

-- a caller is told that memory was refused
abbrev pub IsNoMemory : (old new : List ℕ) → Answer → Type 0
IsNoMemory old new answer = IsGiven no_memory.status no_memory.text old new answer

-- a caller is told this status and this text, or that memory was refused
abbrev pub IsGivenOrNone : (status : ℕ) (text old new : List ℕ) → Answer → Type 0
IsGivenOrNone status text old new answer = IsGiven status text old new answer ⊎ IsNoMemory old new answer

-- a caller is told something that the program says, or that memory was refused
abbrev pub IsAnswered : (Said → Type 0) → (old new : List ℕ) → Answer → Type 0
IsAnswered Meant old new answer = ((said : Said) × Meant said × IsGiven (status_of said) (text_of said) old new answer) ⊎ IsNoMemory old new answer

-- a caller is told of no verdict
abbrev pub IsNoVerdict : Answer → Type 0
IsNoVerdict answer = 1 < answer.status

-- ---- places

-- no instruction has this number
abbrev pub nowhere : ℕ
nowhere = 2 ^ 64 - 1

-- no instruction is named
abbrev pub IsNoInstruction : Place → Type 0
IsNoInstruction place = place.function ≡ nowhere

-- neither a code nor an instruction is named
pub record IsNowhere (place : Place) : Type 0 where
  pub no_code : place.letter ≡ 0
  pub no_instruction : IsNoInstruction place

-- the code is this one, if there is one
abbrev pub IsCode : (code : List ℕ) → Place → Type 0
IsCode code place = (place.letter ≡ 0) ⊎ (code ≡ place.letter ∷ decimal place.number)

-- the rule and the instruction of a refusal are named
pub record IsPlaceOf (refusal : Refusal) (place : Place) : Type 0 where
  pub rule : rule_name refusal.rule ≡ place.letter ∷ decimal place.number
  pub function : place.function ≡ refusal.func
  pub block : place.block ≡ refusal.block
  pub instruction : place.instruction ≡ refusal.instr

-- ---- what an answer promises

-- the files are texts of a module and of certificates with which it is accepted
abbrev pub AreAccepted : Option ModuleFile → Option File → Type 0
AreAccepted first certificate = (m : Module) × (certs : Certs) × HasModule first m × HasCerts certificate m certs × IsAccepted (shaped m certs) certs.sections

-- an answer on a module and its certificates that names an instruction names that of their first refusal
abbrev pub IsRefusedAt : Module → Certs → Place → Type 0
IsRefusedAt m certs place = place.function ≢ nowhere → (refusal : Refusal) × IsFirstRefusal (shaped m certs) certs.sections refusal × IsPlaceOf refusal place

-- and so does one on their files
abbrev pub IsPlaced : Option ModuleFile → Option File → Place → Type 0
IsPlaced first certificate place = place.function ≢ nowhere → (m : Module) × (certs : Certs) × HasModule first m × HasCerts certificate m certs × IsRefusedAt m certs place
