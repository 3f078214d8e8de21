-- Parts that instructions of several families have.
use Rattle.std.specs.Prelude.{ℕ, List, ◌++◌, codes}
use Rattle.ir_ast.specs.declared.argument.Argument.{Argument}
use Rattle.ir_ast.specs.declared.module.Module.{Module}
use Rattle.ir_ast.specs.declared.operand.Operand.{Operand}
use Rattle.ir_tokens.specs.Bytes.{Text}
use Rattle.ir_print.specs.Types.{type_text}
use Rattle.ir_print.specs.Operands.{operand_text, argument_text}

-- an operand with its type
abbrev pub typed : (written : ℕ) → Operand → Argument
typed written x = record { written = written; operand = x }

-- `T V to U`
abbrev pub converted_text : Module → (locals : List Text) → Argument → (to : ℕ) → Text
converted_text m locals x to = argument_text m locals x ++ codes " to " ++ type_text m to

-- `T V, W`
abbrev pub pair_text : Module → (locals : List Text) → Argument → (second : Operand) → Text
pair_text m locals x second = argument_text m locals x ++ codes ", " ++ operand_text m locals x.written second

-- `T, T* V`
abbrev pub placed_text : Module → (locals : List Text) → (written : ℕ) → Argument → Text
placed_text m locals written place = type_text m written ++ codes ", " ++ argument_text m locals place
