-- Where no instruction makes a slot, no name is that of a root slot.
use Rattle.std.proofs.Common.{◌≡◌, ℕ, Bool, false, List, [], ◌∷◌, Option, refl}
use Rattle.lemmas.specs.Bools.{or_neither}
use Rattle.ir_ast.specs.declared.block.Block.{Block}
use Rattle.ir_ast.specs.declared.instr.Instr.{Instr}
use Rattle.ir_ast.specs.declared.memory.MemoryOp.TheVariants.{Alloca}
use Rattle.ir_ast.specs.declared.op.Op.{Op}
use Rattle.ir_ast.specs.declared.op.Op.TheVariants.{Memory}
use Rattle.shadow_stack.specs.Slots.{SlotTable}
use Rattle.certs.specs.RootNames.{root_recorded, roots_recorded, roots_of_blocks}
use Rattle.certificate.specs.Allocas.{is_alloca, has_alloca, makes_slots}

module _ (slots : SlotTable) where
  no_root : (op : Op) (name : Option ℕ) (roots : List Bool) → is_alloca op ≡ false → root_recorded slots op name roots ≡ roots
  no_root (Memory (Alloca held)) name roots e = absurd cc
  no_root _ name roots e = refl

  no_roots_in : (body : List Instr) (roots : List Bool) → has_alloca body ≡ false → roots_recorded slots body roots ≡ roots
  no_roots_in [] roots e = refl
  no_roots_in (instr ∷ body) roots e =
      let parts = or_neither (is_alloca instr.op) (has_alloca body) e in
      rw (no_root instr.op instr.result roots parts.0) (no_roots_in body roots parts.1)

  pub no_roots : (blocks : List Block) (roots : List Bool) → makes_slots blocks ≡ false → roots_of_blocks slots blocks roots ≡ roots
  no_roots [] roots e = refl
  no_roots (block ∷ blocks) roots e =
      let parts = or_neither (has_alloca block.body) (makes_slots blocks) e in
      rw (no_roots_in block.body roots parts.0) (no_roots blocks roots parts.1)
