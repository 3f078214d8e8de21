-- How the instructions of a block's body are printed.
use Rattle.std.specs.Prelude.{ℕ, List, [], ◌++◌, Option, Some, None, codes}
use Rattle.ir_ast.specs.declared.instr.Instr.{Instr}
use Rattle.ir_ast.specs.declared.module.Module.{Module}
use Rattle.ir_ast.specs.declared.op.Op.{Op}
use Rattle.ir_ast.specs.declared.op.Op.TheVariants as op
use Rattle.ir_tokens.specs.Bytes.{Text}
use Rattle.ir_print.specs.Names.{local_text}
use Rattle.ir_print.specs.Numbers.{number_op_text}
use Rattle.ir_print.specs.Memory.{memory_op_text}
use Rattle.ir_print.specs.Elements.{element_text}
use Rattle.ir_print.specs.Casts.{cast_text}
use Rattle.ir_print.specs.Choices.{choice_text}
use Rattle.ir_print.specs.Calls.{call_text}

-- what an instruction does
abbrev pub op_text : Module → (locals : List Text) → Op → Text
op_text m locals (op.Number x) = number_op_text m locals x
op_text m locals (op.Memory x) = memory_op_text m locals x
op_text m locals (op.Element x) = element_text m locals x
op_text m locals (op.Cast x) = cast_text m locals x
op_text m locals (op.Choice x) = choice_text m locals x
op_text m locals (op.Call x) = call_text m locals x

-- the name of an instruction's value, if it has one
abbrev pub result_text : (locals : List Text) → Option ℕ → Text
result_text locals None = []
result_text locals (Some value) = local_text locals value ++ codes " = "

-- the line of an instruction, after two blanks
abbrev pub instruction_line : Module → (locals : List Text) → Instr → Text
instruction_line m locals x = codes "  " ++ result_text locals x.result ++ op_text m locals x.op ++ codes "\n"
