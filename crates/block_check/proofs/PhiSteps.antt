-- The phi at a place of a block.
use Rattle.std.proofs.Common.{◌≡◌, ◌<◌, ℕ, List, length, get_or, ap}
use Rattle.ir_ast.specs.declared.choices.Phi.{Phi}
use Rattle.block_check.specs.Follows.{got_at}
use Rattle.block_check.specs.PhiOperands.{entries_in, entries_at}

-- the entries of the phi at a place
pub phi_at : (phis : List Phi) (place : ℕ) (phi : Phi) → place < length phis → phi ≡ get_or phis place phi → entries_at phis place ≡ phi.incoming
phi_at phis place phi lt is = ap entries_in (got_at phis place phi lt is)
