-- How a select and a phi are printed.
use Rattle.std.specs.Prelude.{ℕ, List, ◌∷◌, ◌++◌, codes}
use Rattle.ir_ast.specs.declared.choices.Choice.{Choice}
use Rattle.ir_ast.specs.declared.choices.Incoming.{Incoming}
use Rattle.ir_ast.specs.declared.choices.Phi.{Phi}
use Rattle.ir_ast.specs.declared.module.Module.{Module}
use Rattle.ir_tokens.specs.Bytes.{Text}
use Rattle.ir_print.specs.Names.{local_text}
use Rattle.ir_print.specs.Types.{type_text}
use Rattle.ir_print.specs.Operands.{operand_text, typed_text, listed}

-- a select
abbrev pub choice_text : Module → (locals : List Text) → Choice → Text
choice_text m locals x =
    codes "select " ++ typed_text m locals x.condition_type x.condition ++ codes ", " ++ typed_text m locals x.written x.chosen ++ codes ", " ++ typed_text m locals x.written x.other

-- `[ V, %b ]`, an entry of a phi of this type
abbrev pub incoming_text : Module → (locals : List Text) → (written : ℕ) → Incoming → Text
incoming_text m locals written x = codes "[ " ++ operand_text m locals written x.operand ++ codes ", " ++ local_text locals x.from ++ codes " ]"

-- the line of a phi, after two blanks
abbrev pub phi_line : Module → (locals : List Text) → Phi → Text
phi_line m locals x =
    codes "  " ++ local_text locals x.value ++ codes " = phi " ++ type_text m x.written ++ 32 ∷ listed (incoming_text m locals x.written) x.incoming ++ codes "\n"
