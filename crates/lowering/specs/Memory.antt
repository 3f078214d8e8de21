-- How operations on memory are lowered.
use Rattle.std.specs.Prelude.{ℕ, Bool, false, if◌then◌else◌, List, [], ◌∷◌, ◌++◌, Option, Some, None, is_some, slice_get, codes}
use Rattle.ir_ast.specs.declared.instr.Instr.{Instr}
use Rattle.ir_ast.specs.declared.ir_type.IrType.{IrType}
use Rattle.ir_ast.specs.declared.ir_type.IrType.TheVariants.{Integer, Float, Double}
use Rattle.ir_ast.specs.declared.memory.MemoryOp.{MemoryOp}
use Rattle.ir_ast.specs.declared.memory.MemoryOp.TheVariants as memory
use Rattle.ir_ast.specs.declared.module.Module.{Module}
use Rattle.ir_ast.specs.declared.operand.Operand.{Operand}
use Rattle.ir_ast.specs.declared.operand.Operand.TheVariants as operand
use Rattle.ir_tokens.specs.Bytes.{Text}
use Rattle.ir_print.specs.Names.{local_text}
use Rattle.ir_print.specs.Types.{type_text}
use Rattle.ir_print.specs.Parts.{typed}
use Rattle.ir_print.specs.Instructions.{instruction_line}
use Rattle.shadow_stack.specs.Slots.{SlotTable, slot_of}
use Rattle.lowering.specs.declared.words.Loading.{Loading}
use Rattle.lowering.specs.declared.words.Seat.{Seat}
use Rattle.lowering.specs.declared.words.Storing.{Storing}
use Rattle.lowering.specs.Words.{load_text, store_text, local_line}

-- whether an operand names a slot
abbrev pub names_slot : SlotTable → Operand → Bool
names_slot slots (operand.Local value) = is_some (slot_of slots value)
names_slot slots _ = false

-- an instruction as it stands, which makes no step on shared words
abbrev pub plain_line : (recorded : Bool) → Module → (locals : List Text) → Instr → Text
plain_line recorded m locals instr = local_line recorded ++ instruction_line m locals instr

-- how a value begins that a slot begins with, and what is before the slot's name
abbrev pub first_value : Option IrType → Text
first_value (Some (Integer bits)) = codes " 0, ptr "
first_value (Some Float) = codes " 0.0, ptr "
first_value (Some Double) = codes " 0.0, ptr "
first_value _ = codes " null, ptr "

-- the line that stores what a slot begins with; a slot without a name has none
abbrev pub first_line : Module → (locals : List Text) → (held : ℕ) → (slot : Option ℕ) → Text
first_line m locals held None = []
first_line m locals held (Some slot) = codes "  store " ++ type_text m held ++ first_value (slice_get m.types held) ++ local_text locals slot ++ 10 ∷ []

-- a load, as it stands where its place is a slot
abbrev pub load_from : (recorded : Bool) → Module → (locals : List Text) → SlotTable → Seat → Instr → Loading → Text
load_from recorded m locals slots seat instr x = if names_slot slots x.place.operand then plain_line recorded m locals instr else load_text recorded m locals seat x

-- a store, as it stands where its place is a slot
abbrev pub store_into : (recorded : Bool) → Module → (locals : List Text) → SlotTable → Seat → Instr → Storing → Text
store_into recorded m locals slots seat instr x = if names_slot slots x.place.operand then plain_line recorded m locals instr else store_text recorded m locals seat x

-- an operation on memory; a buffer's line stands as it is, but a text that has one is refused before (`Outside`)
abbrev pub memory_text : (recorded : Bool) → Module → (locals : List Text) → SlotTable → Seat → Instr → MemoryOp → Text
memory_text recorded m locals slots seat instr (memory.Alloca held) = plain_line recorded m locals instr ++ first_line m locals held instr.result
memory_text recorded m locals slots seat instr (memory.Buffer held count) = plain_line recorded m locals instr
memory_text recorded m locals slots seat instr (memory.Load loaded place_type place) =
    load_from recorded m locals slots seat instr (record { result = instr.result; loaded = loaded; place = typed place_type place })
memory_text recorded m locals slots seat instr (memory.Store stored value place_type place) =
    store_into recorded m locals slots seat instr (record { value = typed stored value; place = typed place_type place })
