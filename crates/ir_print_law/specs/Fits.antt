-- Which constants a type has, and how one is printed there.
use Rattle.std.specs.Prelude.{◌≡◌, ℕ, ◌<◌, ◌≤◌, ◌^◌, ◌==◌, Bool, true, false, codes}
use Rattle.ir_ast.specs.Floats.{is_float}
use Rattle.ir_ast.specs.declared.operand.Constant.{Constant}
use Rattle.ir_ast.specs.declared.operand.Constant.TheVariants as constant
use Rattle.ir_forms.specs.declared.written.Word.{Word}
use Rattle.ir_forms.specs.declared.written.Word.TheVariants as sort
use Rattle.ir_tokens.specs.Bytes.{Text}
use Rattle.ir_print.specs.Hexadecimal.{bits_text}
use Rattle.ir_print.specs.Operands.{number_text, truth_text}

-- whether this word is one bit
abbrev pub is_bit_width : Word → Bool
is_bit_width (sort.Integer bits) = bits == 1
is_bit_width _ = false

-- a constant is one of the values of a word of this sort, as reading gives them
abbrev pub FitsType : Word → Constant → Type 0
FitsType sort.Pointer (constant.Number number) = number < 2 ^ 64
FitsType (sort.Integer bits) (constant.Number number) = (1 ≤ bits) × (bits ≤ 64) × (number < 2 ^ bits)
FitsType sort.Float (constant.Float number) = (is_float number ≡ true) × (number < 2 ^ 64)
FitsType sort.Double (constant.Float number) = number < 2 ^ 64
FitsType word constant.Null = Unit {0}
FitsType word (constant.Truth truth) = is_bit_width word ≡ false
FitsType _ _ = ⊥

-- a constant as it is printed at a word of this sort
abbrev pub constant_shown : Word → Constant → Text
constant_shown word (constant.Number number) = number_text (is_bit_width word) number
constant_shown word (constant.Float number) = bits_text number
constant_shown word constant.Null = codes "null"
constant_shown word (constant.Truth truth) = truth_text truth
