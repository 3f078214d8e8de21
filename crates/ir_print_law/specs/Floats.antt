-- Operations on floating point numbers: when they are printable, when their numbers are within the tables, and when one is another one again.
use Rattle.std.specs.Prelude.{◌≡◌, true, List, slice_get}
use Rattle.ir_ast.specs.declared.floats.FloatOp.{FloatOp}
use Rattle.ir_ast.specs.declared.floats.FloatOp.TheVariants as float
use Rattle.ir_ast.specs.declared.function.Function.{Function}
use Rattle.ir_ast.specs.declared.module.Module.{Module}
use Rattle.ir_forms.specs.FloatOps.{may_convert}
use Rattle.ir_tokens.specs.Bytes.{Text}
use Rattle.ir_print.specs.Parts.{typed}
use Rattle.ir_print_law.specs.Parts.{ArePair, IsArgument, IsConverted, IsFloat, word_of_type}
use Rattle.ir_print_law.specs.PartsWithin.{ArePairWithin, HasType, IsConvertedWithin, IsOperandWithin}
use Rattle.ir_print_law.specs.PartsAgain.{IsTypeAgain, IsOperandAgain, ArePairAgain}

-- an operation on floating point numbers
abbrev pub IsFloatOp : Module → Function → FloatOp → Type 0
IsFloatOp m f (float.Arithmetic kind written first second) = IsFloat m written × ArePair m f written first second
IsFloatOp m f (float.Negate written x) = IsFloat m written × IsArgument m f (typed written x)
IsFloatOp m f (float.Compare kind written first second) = IsFloat m written × ArePair m f written first second
IsFloatOp m f (float.Convert kind from x to) = (may_convert kind (word_of_type (slice_get m.types from)) (word_of_type (slice_get m.types to)) ≡ true) × IsConverted m f from x to

-- an operation on floating point numbers, whose numbers are within the tables
abbrev pub IsFloatOpWithin : Module → Function → FloatOp → Type 0
IsFloatOpWithin m f (float.Arithmetic kind written first second) = ArePairWithin m f written first second
IsFloatOpWithin m f (float.Negate written x) = HasType m written × IsOperandWithin m f x
IsFloatOpWithin m f (float.Compare kind written first second) = ArePairWithin m f written first second
IsFloatOpWithin m f (float.Convert kind from x to) = IsConvertedWithin m f from x to

-- Two modules, and the names of a function in each.
module _ (m n : Module) (locals others : List Text) where
  -- operations on floating point numbers: one operation, each part alike
  abbrev pub IsFloatOpAgain : FloatOp → FloatOp → Type 0
  IsFloatOpAgain (float.Arithmetic kind t a b) (float.Arithmetic other u x y) = (kind ≡ other) × ArePairAgain m n locals others t a b u x y
  IsFloatOpAgain (float.Negate t x) (float.Negate u y) = IsTypeAgain m n t u × IsOperandAgain m n locals others x y
  IsFloatOpAgain (float.Compare kind t a b) (float.Compare other u x y) = (kind ≡ other) × ArePairAgain m n locals others t a b u x y
  IsFloatOpAgain (float.Convert kind t x to) (float.Convert other u y into) = (kind ≡ other) × IsTypeAgain m n t u × IsOperandAgain m n locals others x y × IsTypeAgain m n to into
  IsFloatOpAgain _ _ = ⊥
