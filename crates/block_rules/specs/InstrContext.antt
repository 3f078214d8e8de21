-- Where an instruction is: in the entry block, in its head, and whether its function may move references; and what its function's certificate says.
use Rattle.std.specs.Prelude.{ℕ, ◌==◌, Bool, true, false, not, ◌&&◌, ◌||◌, List, [], ◌∷◌, length, slice_get, nat_lt, Option, Some, None, is_some}
use Rattle.std.specs.List.{list_any, take_while}
use Rattle.std.specs.Str.{bytes_eq}
use Rattle.ir_ast.specs.declared.block.Block.{Block}
use Rattle.ir_ast.specs.declared.choices.Phi.{Phi}
use Rattle.ir_ast.specs.declared.ends.End.{End}
use Rattle.ir_ast.specs.declared.function.Function.{Function}
use Rattle.ir_ast.specs.declared.instr.Instr.{Instr}
use Rattle.ir_ast.specs.declared.memory.MemoryOp.{MemoryOp}
use Rattle.ir_ast.specs.declared.memory.MemoryOp.TheVariants as memory
use Rattle.ir_ast.specs.declared.op.Op.{Op}
use Rattle.ir_ast.specs.declared.op.Op.TheVariants as op
use Rattle.ir_ast.specs.declared.module.Module.{Module}
use Rattle.ir_ast.specs.declared.operand.Operand.{Operand}
use Rattle.ir_ast.specs.declared.operand.Operand.TheVariants.{Constant as Written, Local}
use Rattle.ir_ast.specs.declared.runtime.Runtime.{Runtime}
use Rattle.ir_ast.specs.declared.runtime.Runtime.TheVariants.{GcRoot}
use Rattle.types.specs.RuntimeCall.{runtime_called}
use Rattle.shadow_stack.specs.Slots.{SlotTable}
use Rattle.certs.specs.declared.section.Mark.{Mark}
use Rattle.certs.specs.declared.section.Promise.{Promise}
use Rattle.block_rules.specs.declared.instr_context.InstrContext.{InstrContext}
use Rattle.block_rules.specs.Operands.{slot_named}
use Rattle.type_kinds.specs.TypeKinds.{kind_of, may_be_reference}

-- a local name is a parameter of a function
abbrev pub is_parameter : Function → (value : ℕ) → Bool
is_parameter f value = list_any (λ parameter. parameter.value == value) f.parameters

-- a constant, or a parameter
abbrev pub is_given : Function → Operand → Bool
is_given f (Written c) = true
is_given f (Local v) = is_parameter f v
is_given f _ = false

-- a function of the runtime is gcroot
abbrev pub is_gcroot : Option Runtime → Bool
is_gcroot (Some GcRoot) = true
is_gcroot _ = false

-- an operation on memory that may be of the head
abbrev pub is_memory_of_head : Function → SlotTable → MemoryOp → Bool
is_memory_of_head f slots (memory.Alloca held) = true
is_memory_of_head f slots (memory.Buffer held count) = true
is_memory_of_head f slots (memory.Load loaded place_type place) = false
is_memory_of_head f slots (memory.Store stored value place_type place) = is_given f value && is_some (slot_named slots place)

-- what the head is made of: allocas, bitcasts of slots, calls of gcroot, and stores of constants and parameters into slots
abbrev pub is_of_head : Module → Function → SlotTable → Op → Bool
is_of_head m f slots (op.Memory x) = is_memory_of_head f slots x
is_of_head m f slots (op.Cast x) = is_some (slot_named slots x.operand)
is_of_head m f slots (op.Call x) = is_gcroot (runtime_called m x.callee)
is_of_head m f slots _ = false

-- an instruction may be of the head
abbrev pub is_head_instruction : Module → Function → SlotTable → Instr → Bool
is_head_instruction m f slots instr = is_of_head m f slots instr.op

-- how many instructions the head has: the longest front of the entry block that is made of these; a phi is none of them
abbrev pub head_of : Module → Function → SlotTable → List Phi → List Instr → ℕ
head_of m f slots [] body = length (take_while (is_head_instruction m f slots) body)
head_of m f slots (phi ∷ phis) body = 0

-- a type that the collector has to know of: a reference, or i8*
abbrev pub is_collected_type : Module → (written : ℕ) → Bool
is_collected_type m written = may_be_reference (kind_of m written)

-- an operation on memory moves a reference: the value of a load or of a store is one
abbrev pub memory_moves : Module → MemoryOp → Bool
memory_moves m (memory.Alloca held) = false
memory_moves m (memory.Buffer held count) = false
memory_moves m (memory.Load loaded place_type place) = is_collected_type m loaded
memory_moves m (memory.Store stored value place_type place) = is_collected_type m stored

-- an operation moves a reference: also the value of a select or of a call, or an argument, is one
abbrev pub moves_reference : Module → Op → Bool
moves_reference m (op.Memory x) = memory_moves m x
moves_reference m (op.Choice x) = is_collected_type m x.written
moves_reference m (op.Call x) = is_collected_type m x.returned || list_any (λ argument. is_collected_type m argument.written) x.arguments
moves_reference m _ = false

-- an instruction moves references
abbrev pub instruction_moves : Module → Instr → Bool
instruction_moves m instr = moves_reference m instr.op

-- a phi does
abbrev pub phi_moves : Module → Phi → Bool
phi_moves m phi = is_collected_type m phi.written

-- a block does
abbrev pub block_moves : Module → Block → Bool
block_moves m block = list_any (phi_moves m) block.phis || list_any (instruction_moves m) block.body

-- a function does, or takes or returns one
abbrev pub function_moves : Module → Function → Bool
function_moves m f =
    is_collected_type m f.returned || list_any (λ parameter. is_collected_type m parameter.written) f.parameters || list_any (block_moves m) f.blocks

-- a function is written with `gc "shadow-stack"`
abbrev pub shadow_stack_text : List ℕ
shadow_stack_text = 115 ∷ 104 ∷ 97 ∷ 100 ∷ 111 ∷ 119 ∷ 45 ∷ 115 ∷ 116 ∷ 97 ∷ 99 ∷ 107 ∷ []

-- the text after `gc` names it
abbrev pub is_shadow_stack : Option (List ℕ) → Bool
is_shadow_stack None = false
is_shadow_stack (Some text) = bytes_eq text shadow_stack_text

-- a function that moves references has a shadow stack
abbrev pub keeps_shadow_stack : Module → Function → Bool
keeps_shadow_stack m f = is_shadow_stack f.collector || not (function_moves m f)

-- the phis of a block; a block that a function does not have has none
abbrev pub block_phis : Option Block → List Phi
block_phis None = []
block_phis (Some block) = block.phis

-- the phis of a block by its number
abbrev pub phis_of : Function → (block : ℕ) → List Phi
phis_of f block = block_phis (slice_get f.blocks block)

-- the instructions of a block's body
abbrev pub block_body : Option Block → List Instr
block_body None = []
block_body (Some block) = block.body

-- of a block by its number
abbrev pub body_of : Function → (block : ℕ) → List Instr
body_of f block = block_body (slice_get f.blocks block)

-- the end of a block
abbrev pub block_end : Option Block → Option End
block_end None = None
block_end (Some block) = Some block.end

-- of a block by its number
abbrev pub end_of : Function → (block : ℕ) → Option End
end_of f block = block_end (slice_get f.blocks block)

-- how far the head goes in a block: only the entry has one
abbrev pub head_in : Module → Function → SlotTable → (block : ℕ) → ℕ
head_in m f slots block = elim (block == 0) [ true ↦ head_of m f slots (phis_of f block) (body_of f block) | false ↦ 0 ]

-- whether the first instruction of a block may be there: that of the entry may not where a shadow stack is missing
abbrev pub begins_collected : Module → Function → (block : ℕ) → Bool
begins_collected m f block = not (block == 0) || keeps_shadow_stack m f

-- where the instruction at a place of a block is, of its phis, its body and its end in this order, in a function of whose result this is promised, and which is marked so
abbrev pub instr_context : Module → Function → SlotTable → (promised : Option Promise) → Mark → (block place : ℕ) → InstrContext
instr_context m f slots promised mark block place = record {
  in_entry = block == 0;
  in_head = nat_lt place (head_in m f slots block);
  may_move_references = not (place == 0) || begins_collected m f block;
  promised = promised;
  mark = mark;
}
