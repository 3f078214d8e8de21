-- How the instructions of a block's body are lowered.
use Rattle.std.specs.Prelude.{ℕ, suc, Bool, List, [], ◌∷◌, ◌++◌}
use Rattle.ir_ast.specs.declared.instr.Instr.{Instr}
use Rattle.ir_ast.specs.declared.module.Module.{Module}
use Rattle.ir_ast.specs.declared.op.Op.{Op}
use Rattle.ir_ast.specs.declared.op.Op.TheVariants as op
use Rattle.ir_tokens.specs.Bytes.{Text}
use Rattle.shadow_stack.specs.Slots.{SlotTable}
use Rattle.lowering.specs.declared.words.Seat.{Seat}
use Rattle.lowering.specs.Calls.{call_text}
use Rattle.lowering.specs.Elements.{element_line}
use Rattle.lowering.specs.Memory.{memory_text, plain_line}

-- an instruction, by what it does
abbrev pub op_text : (recorded : Bool) → Module → (locals : List Text) → SlotTable → Seat → Instr → Op → Text
op_text recorded m locals slots seat instr (op.Number x) = plain_line recorded m locals instr
op_text recorded m locals slots seat instr (op.Memory x) = memory_text recorded m locals slots seat instr x
op_text recorded m locals slots seat instr (op.Element x) = element_line recorded m locals instr.result x
op_text recorded m locals slots seat instr (op.Cast x) = plain_line recorded m locals instr
op_text recorded m locals slots seat instr (op.Choice x) = plain_line recorded m locals instr
op_text recorded m locals slots seat instr (op.Call x) = call_text recorded m locals seat instr x

-- the instruction at a place of a block
abbrev pub instruction_text : (recorded : Bool) → Module → (locals : List Text) → SlotTable → Seat → Instr → Text
instruction_text recorded m locals slots seat instr = op_text recorded m locals slots seat instr instr.op

-- instructions of the block with this label, of which the first is at this place
abbrev pub body_text : (recorded : Bool) → Module → (locals : List Text) → SlotTable → (label place : ℕ) → List Instr → Text
body_text recorded m locals slots label place [] = []
body_text recorded m locals slots label place (instr ∷ body) =
    instruction_text recorded m locals slots (record { label = label; place = place }) instr ++ body_text recorded m locals slots label (suc place) body
