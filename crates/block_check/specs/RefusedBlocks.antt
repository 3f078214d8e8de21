-- The first refusals of the blocks of a function that are not certified, in order.
use Rattle.std.specs.Prelude.{ℕ, ◌+◌, List, [], ◌∷◌, ◌++◌}
use Rattle.certs.specs.declared.section.Section.{Section}
use Rattle.layout.specs.Layouts.{LaidOut}
use Rattle.block_rules.specs.Certified.{BlockCertified, FirstRefusal}
use Rattle.block_rules.specs.declared.block_fault.Refusal.{Refusal}

-- these are the first refusals of those of the first `count` blocks of a function that are not certified, in the order of the blocks
pub data AreOfBlocks (program : LaidOut) (certs : List Section) (func : ℕ) : (count : ℕ) → List Refusal → Type 0 where
  NoBlock : AreOfBlocks program certs func 0 []
  Certified : (block : ℕ) (before : List Refusal) → AreOfBlocks program certs func block before → BlockCertified program certs func block → AreOfBlocks program certs func (block + 1) before
  Refused :
      (block : ℕ) (before : List Refusal) (refusal : Refusal) → AreOfBlocks program certs func block before → FirstRefusal program certs func block refusal
      → AreOfBlocks program certs func (block + 1) (before ++ refusal ∷ [])
