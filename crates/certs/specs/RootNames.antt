-- Root slots, by the slots of a function.
use Rattle.std.specs.Prelude.{ℕ, Bool, false, List, [], ◌∷◌, length, replicate, slice_set, Option, Some, None}
use Rattle.ir_ast.specs.declared.block.Block.{Block}
use Rattle.ir_ast.specs.declared.function.Function.{Function}
use Rattle.ir_ast.specs.declared.instr.Instr.{Instr}
use Rattle.ir_ast.specs.declared.memory.MemoryOp.TheVariants.{Alloca}
use Rattle.ir_ast.specs.declared.module.Module.{Module}
use Rattle.ir_ast.specs.declared.op.Op.{Op}
use Rattle.ir_ast.specs.declared.op.Op.TheVariants.{Memory}
use Rattle.shadow_stack.specs.Slots.{SlotTable, slots_of, slot_of, is_among}

-- whether there is a slot and it is a root
abbrev pub is_among_roots : SlotTable → Option ℕ → Bool
is_among_roots slots None = false
is_among_roots slots (Some slot) = is_among slots.roots slot

-- whether a name is that of a root slot or of another name of it
abbrev pub is_root : SlotTable → (value : ℕ) → Bool
is_root slots value = is_among_roots slots (slot_of slots value)

-- an alloca's name is that of a root slot if its slot is a root
abbrev pub root_recorded : SlotTable → Op → (name : Option ℕ) → List Bool → List Bool
root_recorded slots (Memory (Alloca held)) (Some value) roots = slice_set roots value (is_root slots value)
root_recorded slots _ _ roots = roots

-- with the root slots that these instructions name
abbrev pub roots_recorded : SlotTable → List Instr → List Bool → List Bool
roots_recorded slots [] roots = roots
roots_recorded slots (instr ∷ instrs) roots = roots_recorded slots instrs (root_recorded slots instr.op instr.result roots)

-- with the root slots that these blocks name
abbrev pub roots_of_blocks : SlotTable → List Block → List Bool → List Bool
roots_of_blocks slots [] roots = roots
roots_of_blocks slots (block ∷ blocks) roots = roots_of_blocks slots blocks (roots_recorded slots block.body roots)

-- whether each local name is that of a root slot's alloca
abbrev pub root_names : Module → Function → List Bool
root_names m f = roots_of_blocks (slots_of m f) f.blocks (replicate (length f.locals) false)
