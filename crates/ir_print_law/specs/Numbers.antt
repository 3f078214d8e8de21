-- Operations on numbers: when they are printable, when their numbers are within the tables, and when one is another one again.
use Rattle.std.specs.Prelude.{◌≡◌, Bool, true, false, List}
use Rattle.ir_ast.specs.declared.function.Function.{Function}
use Rattle.ir_ast.specs.declared.module.Module.{Module}
use Rattle.ir_ast.specs.declared.numbers.Arithmetic.{Arithmetic}
use Rattle.ir_ast.specs.declared.numbers.Arithmetic.TheVariants as arithmetic
use Rattle.ir_ast.specs.declared.numbers.NumberOp.{NumberOp}
use Rattle.ir_ast.specs.declared.numbers.NumberOp.TheVariants as number
use Rattle.ir_tokens.specs.Bytes.{Text}
use Rattle.ir_print_law.specs.Floats.{IsFloatOp, IsFloatOpWithin, IsFloatOpAgain}
use Rattle.ir_print_law.specs.Parts.{ArePair, IsConverted, IsNoFloat}
use Rattle.ir_print_law.specs.PartsWithin.{ArePairWithin, IsConvertedWithin}
use Rattle.ir_print_law.specs.PartsAgain.{IsTypeAgain, IsOperandAgain, ArePairAgain}

-- an operation of the wide forms
abbrev pub is_wide : Arithmetic → Bool
is_wide arithmetic.Add = false
is_wide arithmetic.Sub = false
is_wide arithmetic.Mul = false
is_wide arithmetic.And = false
is_wide arithmetic.Or = false
is_wide arithmetic.Xor = false
is_wide _ = true

-- the operation may stand in a text of the module
abbrev pub MayStand : Module → Arithmetic → Type 0
MayStand m kind = is_wide kind ≡ true → m.wide ≡ true

-- an operation that gives a number; those on floating point numbers stand in texts of the wide forms
abbrev pub IsNumberOp : Module → Function → NumberOp → Type 0
IsNumberOp m f (number.Arithmetic kind written first second) = MayStand m kind × IsNoFloat m written × ArePair m f written first second
IsNumberOp m f (number.Resize kind from x to) = IsNoFloat m from × IsNoFloat m to × IsConverted m f from x to
IsNumberOp m f (number.Compare kind written first second) = IsNoFloat m written × ArePair m f written first second
IsNumberOp m f (number.Float x) = (m.wide ≡ true) × IsFloatOp m f x

-- an operation that gives a number, whose numbers are within the tables
abbrev pub IsNumberOpWithin : Module → Function → NumberOp → Type 0
IsNumberOpWithin m f (number.Arithmetic kind written first second) = ArePairWithin m f written first second
IsNumberOpWithin m f (number.Resize kind from x to) = IsConvertedWithin m f from x to
IsNumberOpWithin m f (number.Compare kind written first second) = ArePairWithin m f written first second
IsNumberOpWithin m f (number.Float x) = IsFloatOpWithin m f x

-- Two modules, and the names of a function in each.
module _ (m n : Module) (locals others : List Text) where
  -- operations that give a number: one operation, each part alike
  abbrev pub IsNumberOpAgain : NumberOp → NumberOp → Type 0
  IsNumberOpAgain (number.Arithmetic kind t a b) (number.Arithmetic other u x y) = (kind ≡ other) × ArePairAgain m n locals others t a b u x y
  IsNumberOpAgain (number.Resize kind t x to) (number.Resize other u y into) = (kind ≡ other) × IsTypeAgain m n t u × IsOperandAgain m n locals others x y × IsTypeAgain m n to into
  IsNumberOpAgain (number.Compare kind t a b) (number.Compare other u x y) = (kind ≡ other) × ArePairAgain m n locals others t a b u x y
  IsNumberOpAgain (number.Float x) (number.Float y) = IsFloatOpAgain m n locals others x y
  IsNumberOpAgain _ _ = ⊥
