-- The first refusals of blocks that are not certified, in order.
use Rattle.std.specs.Prelude.{ℕ, ◌+◌, List, [], ◌++◌}
use Rattle.certs.specs.declared.section.Section.{Section}
use Rattle.layout.specs.Layouts.{LaidOut}
use Rattle.block_rules.specs.Functions.{blocks_in}
use Rattle.block_rules.specs.declared.block_fault.Refusal.{Refusal}
use Rattle.block_check.specs.RefusedBlocks.{AreOfBlocks}

-- these are those of the functions from one number up to another one, in the order of the functions
pub data AreOfRange (program : LaidOut) (certs : List Section) (from : ℕ) : (to : ℕ) → List Refusal → Type 0 where
  NoFunction : AreOfRange program certs from from []
  Further :
      (func : ℕ) (before further : List Refusal) → AreOfRange program certs from func before → AreOfBlocks program certs func (blocks_in program func) further
      → AreOfRange program certs from (func + 1) (before ++ further)

-- these are those of the first `count` functions, in the order of the functions
abbrev pub AreOfFunctions : LaidOut → List Section → (count : ℕ) → List Refusal → Type 0
AreOfFunctions program certs count refusals = AreOfRange program certs 0 count refusals
