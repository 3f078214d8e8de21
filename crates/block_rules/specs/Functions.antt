-- When each block of a function is certified, and the first refusal in a function.
use Rattle.std.specs.Prelude.{◌≡◌, ◌<◌, ℕ, List, length, slice_get}
use Rattle.std.specs.Option.{option_map_or}
use Rattle.certs.specs.declared.section.Section.{Section}
use Rattle.layout.specs.Layouts.{LaidOut}
use Rattle.block_rules.specs.Certified.{BlockCertified, FirstRefusal, IfRefused}
use Rattle.block_rules.specs.declared.block_fault.BlockFault.{BlockFault}
use Rattle.block_rules.specs.declared.block_fault.Refusal.{Refusal}

-- how many blocks a function has
abbrev pub blocks_in : LaidOut → (func : ℕ) → ℕ
blocks_in program func = option_map_or (λ function. length function.blocks) (slice_get program.of_module.functions func) 0

-- the first `count` blocks of a function are certified
abbrev pub AreBlocksCertified : LaidOut → List Section → (func count : ℕ) → Type 0
AreBlocksCertified program certs func count = (block : ℕ) → block < count → BlockCertified program certs func block

-- each block of a function is certified
abbrev pub IsFunctionCertified : LaidOut → List Section → (func : ℕ) → Type 0
IsFunctionCertified program certs func = AreBlocksCertified program certs func (blocks_in program func)

-- an instruction of one of the first `count` blocks of a function is refused, and the blocks before it are certified
pub record IsFirstInFunction (program : LaidOut) (certs : List Section) (func count : ℕ) (refusal : Refusal) : Type 0 where
  pub of_function : refusal.func ≡ func
  pub within : refusal.block < count
  pub refused : FirstRefusal program certs func refusal.block refusal
  pub before : AreBlocksCertified program certs func refusal.block

-- the fault of a function is its first refusal, if it is a refusal
abbrev pub IsFunctionFault : LaidOut → List Section → (func count : ℕ) → BlockFault → Type 0
IsFunctionFault program certs func count fault = IfRefused fault (IsFirstInFunction program certs func count)
