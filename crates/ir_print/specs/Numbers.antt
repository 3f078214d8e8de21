-- How operations on numbers are printed.
use Rattle.std.specs.Prelude.{List, ◌++◌, codes}
use Rattle.ir_ast.specs.declared.module.Module.{Module}
use Rattle.ir_ast.specs.declared.numbers.Arithmetic.{Arithmetic}
use Rattle.ir_ast.specs.declared.numbers.Arithmetic.TheVariants as arithmetic
use Rattle.ir_ast.specs.declared.numbers.Comparison.{Comparison}
use Rattle.ir_ast.specs.declared.numbers.Comparison.TheVariants as comparison
use Rattle.ir_ast.specs.declared.numbers.NumberOp.{NumberOp}
use Rattle.ir_ast.specs.declared.numbers.NumberOp.TheVariants as number
use Rattle.ir_ast.specs.declared.numbers.Resize.{Resize}
use Rattle.ir_ast.specs.declared.numbers.Resize.TheVariants as resize
use Rattle.ir_tokens.specs.Bytes.{Text}
use Rattle.ir_print.specs.Floats.{float_op_text}
use Rattle.ir_print.specs.Parts.{typed, converted_text, pair_text}

-- the word of an integer instruction of two operands
abbrev pub arithmetic_word : Arithmetic → Text
arithmetic_word arithmetic.Add = codes "add "
arithmetic_word arithmetic.Sub = codes "sub "
arithmetic_word arithmetic.Mul = codes "mul "
arithmetic_word arithmetic.And = codes "and "
arithmetic_word arithmetic.Or = codes "or "
arithmetic_word arithmetic.Xor = codes "xor "
arithmetic_word arithmetic.ShiftLeft = codes "shl "
arithmetic_word arithmetic.ShiftRight = codes "lshr "
arithmetic_word arithmetic.ShiftRightSigned = codes "ashr "
arithmetic_word arithmetic.Divide = codes "udiv "
arithmetic_word arithmetic.DivideSigned = codes "sdiv "
arithmetic_word arithmetic.Remainder = codes "urem "
arithmetic_word arithmetic.RemainderSigned = codes "srem "

-- the word of a change of width
abbrev pub resize_word : Resize → Text
resize_word resize.ZeroExtend = codes "zext "
resize_word resize.SignExtend = codes "sext "
resize_word resize.Truncate = codes "trunc "

-- the word of what icmp asks
abbrev pub comparison_word : Comparison → Text
comparison_word comparison.Equal = codes "eq "
comparison_word comparison.NotEqual = codes "ne "
comparison_word comparison.UnsignedGreater = codes "ugt "
comparison_word comparison.UnsignedGreaterOrEqual = codes "uge "
comparison_word comparison.UnsignedLess = codes "ult "
comparison_word comparison.UnsignedLessOrEqual = codes "ule "
comparison_word comparison.SignedGreater = codes "sgt "
comparison_word comparison.SignedGreaterOrEqual = codes "sge "
comparison_word comparison.SignedLess = codes "slt "
comparison_word comparison.SignedLessOrEqual = codes "sle "

-- an operation that gives a number
abbrev pub number_op_text : Module → (locals : List Text) → NumberOp → Text
number_op_text m locals (number.Arithmetic kind written first second) = arithmetic_word kind ++ pair_text m locals (typed written first) second
number_op_text m locals (number.Resize kind from x to) = resize_word kind ++ converted_text m locals (typed from x) to
number_op_text m locals (number.Compare kind written first second) = codes "icmp " ++ comparison_word kind ++ pair_text m locals (typed written first) second
number_op_text m locals (number.Float x) = float_op_text m locals x
