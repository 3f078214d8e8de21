-- The functions outside that give an address, and those that have buffers. Words of 64 bits stand in place of what a module loads and stores, so a text that may hold such an address is not lowered.
use Rattle.std.specs.Prelude.{ℕ, Bool, true, false, ◌&&◌, if◌then◌else◌, List, [], ◌∷◌, Option, Some, None, is_none, slice_get}
use Rattle.std.specs.List.{list_any}
use Rattle.ir_ast.specs.declared.block.Block.{Block}
use Rattle.ir_ast.specs.declared.function.Function.{Function}
use Rattle.ir_ast.specs.declared.items_of_module.Declare.{Declare}
use Rattle.ir_ast.specs.declared.memory.MemoryOp.TheVariants as memory
use Rattle.ir_ast.specs.declared.module.Module.{Module}
use Rattle.ir_ast.specs.declared.op.Op.{Op}
use Rattle.ir_ast.specs.declared.op.Op.TheVariants as op
use Rattle.machine.specs.Kinds.{is_pointer_type}

-- a function that is only declared, and is none of the runtime's, gives a pointer
abbrev pub gives_address : Module → Declare → Bool
gives_address m d = is_none d.runtime && is_pointer_type (slice_get m.types d.returned)

-- the name of the first of these that does
abbrev pub first_giver : Module → List Declare → Option ℕ
first_giver m [] = None
first_giver m (d ∷ declares) = if gives_address m d then Some d.symbol else first_giver m declares

-- an operation makes a buffer
abbrev pub makes_buffer : Op → Bool
makes_buffer (op.Memory (memory.Buffer held count)) = true
makes_buffer _ = false

-- one of a block does
abbrev pub block_makes_buffer : Block → Bool
block_makes_buffer block = list_any (λ instr. makes_buffer instr.op) block.body

-- one of a function does
abbrev pub has_buffer : Function → Bool
has_buffer f = list_any block_makes_buffer f.blocks

-- the name of the first of these functions that has a buffer
abbrev pub first_holder : List Function → Option ℕ
first_holder [] = None
first_holder (f ∷ functions) = if has_buffer f then Some f.symbol else first_holder functions

-- one name, or else another
abbrev pub name_or : Option ℕ → Option ℕ → Option ℕ
name_or None other = other
name_or (Some name) other = Some name

-- in a text with the wide forms: the first function outside that gives an address, or else the first function that has a buffer; no other text calls the one or has the other
abbrev pub address_giver : Module → Option ℕ
address_giver m = if m.wide then name_or (first_giver m m.declares) (first_holder m.functions) else None
