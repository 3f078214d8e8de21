-- The functions that each worker checks, and the first refusal among them, or all refusals.
use Rattle.std.specs.Prelude.{◌≡◌, ◌<◌, ◌+◌, ◌*◌, ◌/◌, ◌%◌, ℕ, nat_lt, List, Option, Some, None, if◌then◌else◌, MatchOption}
use Rattle.certs.specs.declared.section.Section.{Section}
use Rattle.layout.specs.Layouts.{LaidOut}
use Rattle.block_rules.specs.Certified.{IfRefused}
use Rattle.block_rules.specs.Functions.{IsFirstInFunction, IsFunctionCertified, blocks_in}
use Rattle.block_rules.specs.declared.block_fault.BlockFault.{BlockFault}
use Rattle.block_rules.specs.declared.block_fault.BlockFault.TheVariants.{Refused, Memory}
use Rattle.block_rules.specs.declared.block_fault.Refusal.{Refusal}
use Rattle.module_check.specs.Refusals.{AreOfRange}

-- a function is one of those of this worker: each worker has every `workers`-th function
abbrev pub IsOf : (workers worker func : ℕ) → Type 0
IsOf workers worker func = func % workers ≡ worker

-- a function is one of those of the first `some` workers
abbrev pub IsOfFirst : (workers some func : ℕ) → Type 0
IsOfFirst workers some func = func % workers < some

-- of the first `count` functions, those of a share are certified
abbrev pub IsShareCertified : LaidOut → List Section → (Share : ℕ → Type 0) → (count : ℕ) → Type 0
IsShareCertified program certs Share count = (func : ℕ) → func < count → Share func → IsFunctionCertified program certs func

-- an instruction of one of the first `count` functions is refused; the blocks before it in its function, and the functions of the share before that
-- one, are certified
pub record IsFirstInShare (program : LaidOut) (certs : List Section) (Share : ℕ → Type 0) (count : ℕ) (refusal : Refusal) : Type 0 where
  pub within : refusal.func < count
  pub refused : IsFirstInFunction program certs refusal.func (blocks_in program refusal.func) refusal
  pub before : IsShareCertified program certs Share refusal.func

-- the fault of a share is its first refusal, if it is a refusal
abbrev pub IsShareFault : LaidOut → List Section → (Share : ℕ → Type 0) → (count : ℕ) → BlockFault → Type 0
IsShareFault program certs Share count fault = IfRefused fault (IsFirstInShare program certs Share count)

-- this is the first fault of a share, or there is none, and the share is certified
abbrev pub IsFirstFault : LaidOut → List Section → (Share : ℕ → Type 0) → (count : ℕ) → Option BlockFault → Type 0
IsFirstFault program certs Share count fault = MatchOption fault (IsShareCertified program certs Share count) (IsShareFault program certs Share count)

-- the first of two faults, if there are any: no memory, or else the refusal in the earlier function
abbrev pub earlier : Option BlockFault → Option BlockFault → Option BlockFault
earlier None other = other
earlier one None = one
earlier (Some (Refused one)) (Some (Refused other)) = Some (Refused (if nat_lt other.func one.func then other else one))
earlier one other = Some Memory

-- the first function of a worker's range; that of the number after the last worker's is how many functions there are
abbrev pub range_from : (workers count worker : ℕ) → ℕ
range_from workers count worker = worker * count / workers

-- these are the refusals of a worker's range
abbrev pub AreOfWorker : LaidOut → List Section → (workers count worker : ℕ) → List Refusal → Type 0
AreOfWorker program certs workers count worker refusals = AreOfRange program certs (range_from workers count worker) (range_from workers count (worker + 1)) refusals
