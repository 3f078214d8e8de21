-- How operations on floating point numbers are printed.
use Rattle.std.specs.Prelude.{List, ◌++◌, codes}
use Rattle.ir_ast.specs.declared.floats.Conversion.{Conversion}
use Rattle.ir_ast.specs.declared.floats.Conversion.TheVariants as conversion
use Rattle.ir_ast.specs.declared.floats.FloatArithmetic.{FloatArithmetic}
use Rattle.ir_ast.specs.declared.floats.FloatArithmetic.TheVariants as arithmetic
use Rattle.ir_ast.specs.declared.floats.FloatComparison.{FloatComparison}
use Rattle.ir_ast.specs.declared.floats.FloatComparison.TheVariants as comparison
use Rattle.ir_ast.specs.declared.floats.FloatOp.{FloatOp}
use Rattle.ir_ast.specs.declared.floats.FloatOp.TheVariants as float
use Rattle.ir_ast.specs.declared.module.Module.{Module}
use Rattle.ir_tokens.specs.Bytes.{Text}
use Rattle.ir_print.specs.Operands.{argument_text}
use Rattle.ir_print.specs.Parts.{typed, converted_text, pair_text}

-- the word of an instruction of two floating point operands
abbrev pub float_arithmetic_word : FloatArithmetic → Text
float_arithmetic_word arithmetic.Add = codes "fadd "
float_arithmetic_word arithmetic.Subtract = codes "fsub "
float_arithmetic_word arithmetic.Multiply = codes "fmul "
float_arithmetic_word arithmetic.Divide = codes "fdiv "
float_arithmetic_word arithmetic.Remainder = codes "frem "

-- the word of what fcmp asks
abbrev pub float_comparison_word : FloatComparison → Text
float_comparison_word comparison.Never = codes "false "
float_comparison_word comparison.OrderedEqual = codes "oeq "
float_comparison_word comparison.OrderedGreater = codes "ogt "
float_comparison_word comparison.OrderedGreaterOrEqual = codes "oge "
float_comparison_word comparison.OrderedLess = codes "olt "
float_comparison_word comparison.OrderedLessOrEqual = codes "ole "
float_comparison_word comparison.OrderedNotEqual = codes "one "
float_comparison_word comparison.Ordered = codes "ord "
float_comparison_word comparison.Unordered = codes "uno "
float_comparison_word comparison.UnorderedEqual = codes "ueq "
float_comparison_word comparison.UnorderedGreater = codes "ugt "
float_comparison_word comparison.UnorderedGreaterOrEqual = codes "uge "
float_comparison_word comparison.UnorderedLess = codes "ult "
float_comparison_word comparison.UnorderedLessOrEqual = codes "ule "
float_comparison_word comparison.UnorderedNotEqual = codes "une "
float_comparison_word comparison.Always = codes "true "

-- the word of a change of a number
abbrev pub conversion_word : Conversion → Text
conversion_word conversion.Extend = codes "fpext "
conversion_word conversion.Truncate = codes "fptrunc "
conversion_word conversion.ToSigned = codes "fptosi "
conversion_word conversion.ToUnsigned = codes "fptoui "
conversion_word conversion.FromSigned = codes "sitofp "
conversion_word conversion.FromUnsigned = codes "uitofp "

-- an operation on floating point numbers
abbrev pub float_op_text : Module → (locals : List Text) → FloatOp → Text
float_op_text m locals (float.Arithmetic kind written first second) = float_arithmetic_word kind ++ pair_text m locals (typed written first) second
float_op_text m locals (float.Negate written x) = codes "fneg " ++ argument_text m locals (typed written x)
float_op_text m locals (float.Compare kind written first second) = codes "fcmp " ++ float_comparison_word kind ++ pair_text m locals (typed written first) second
float_op_text m locals (float.Convert kind from x to) = conversion_word kind ++ converted_text m locals (typed from x) to
