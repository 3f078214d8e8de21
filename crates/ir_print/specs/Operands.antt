-- How constants and operands are printed.
use Rattle.std.specs.Prelude.{ℕ, ◌==◌, Bool, true, false, if◌then◌else◌, List, [], ◌∷◌, ◌++◌, Option, Some, slice_get, codes}
use Rattle.std.specs.List.{flat_map}
use Rattle.std.specs.Fmt.{decimal}
use Rattle.ir_ast.specs.declared.argument.Argument.{Argument}
use Rattle.ir_ast.specs.declared.ir_type.IrType.{IrType}
use Rattle.ir_ast.specs.declared.ir_type.IrType.TheVariants.{Integer}
use Rattle.ir_ast.specs.declared.module.Module.{Module}
use Rattle.ir_ast.specs.declared.operand.Constant.{Constant}
use Rattle.ir_ast.specs.declared.operand.Constant.TheVariants as constant
use Rattle.ir_ast.specs.declared.operand.Operand.{Operand}
use Rattle.ir_ast.specs.declared.operand.Operand.TheVariants as operand
use Rattle.ir_tokens.specs.Bytes.{Text}
use Rattle.ir_print.specs.Hexadecimal.{bits_text}
use Rattle.ir_print.specs.Names.{local_text, global_text}
use Rattle.ir_print.specs.Types.{type_text}

-- whether this is the type i1
abbrev pub is_bit : Option IrType → Bool
is_bit (Some (Integer bits)) = bits == 1
is_bit _ = false

-- `true` or `false`
abbrev pub truth_text : Bool → Text
truth_text truth = if truth then codes "true" else codes "false"

-- the bit that a number is
abbrev pub bit_of : ℕ → Bool
bit_of number = if number == 0 then false else true

-- a number, of type i1 or of another
abbrev pub number_text : (bit : Bool) → ℕ → Text
number_text bit number = if bit then truth_text (bit_of number) else decimal number

-- a constant of a type: a number without a sign, and one of type i1 as `true` or `false`; the bits of a floating point number
abbrev pub constant_text : Module → (written : ℕ) → Constant → Text
constant_text m written (constant.Number number) = number_text (is_bit (slice_get m.types written)) number
constant_text m written (constant.Float number) = bits_text number
constant_text m written constant.Null = codes "null"
constant_text m written (constant.Truth truth) = truth_text truth

-- `bitcast (T* @g to U*)`
abbrev pub cast_global_text : Module → (from symbol to : ℕ) → Text
cast_global_text m from symbol to = codes "bitcast (" ++ type_text m from ++ 32 ∷ global_text m symbol ++ codes " to " ++ type_text m to ++ 41 ∷ []

-- what an instruction reads, of this type
abbrev pub operand_text : Module → (locals : List Text) → (written : ℕ) → Operand → Text
operand_text m locals written (operand.Constant x) = constant_text m written x
operand_text m locals written (operand.Local value) = local_text locals value
operand_text m locals written (operand.Global symbol) = global_text m symbol
operand_text m locals written (operand.CastGlobal from symbol to) = cast_global_text m from symbol to

-- `T V`
abbrev pub typed_text : Module → (locals : List Text) → (written : ℕ) → Operand → Text
typed_text m locals written x = type_text m written ++ 32 ∷ operand_text m locals written x

-- an operand with its type
abbrev pub argument_text : Module → (locals : List Text) → Argument → Text
argument_text m locals x = typed_text m locals x.written x.operand

-- parts with commas between them
abbrev pub listed : {A : Type 0} → (A → Text) → List A → Text
listed shown [] = []
listed shown (first ∷ rest) = shown first ++ flat_map (λ part. codes ", " ++ shown part) rest
