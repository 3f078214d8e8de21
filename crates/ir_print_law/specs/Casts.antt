-- bitcast: when it is printable, when its numbers are within the tables, and when one is another one again.
use Rattle.std.specs.Prelude.{List}
use Rattle.ir_ast.specs.declared.casts.Cast.{Cast}
use Rattle.ir_ast.specs.declared.function.Function.{Function}
use Rattle.ir_ast.specs.declared.module.Module.{Module}
use Rattle.ir_tokens.specs.Bytes.{Text}
use Rattle.ir_print_law.specs.Parts.{IsConverted}
use Rattle.ir_print_law.specs.PartsWithin.{IsConvertedWithin}
use Rattle.ir_print_law.specs.PartsAgain.{IsTypeAgain, IsOperandAgain}

-- a bitcast
abbrev pub IsCast : Module → Function → Cast → Type 0
IsCast m f x = IsConverted m f x.from x.operand x.to

-- a bitcast whose numbers are within the tables
abbrev pub IsCastWithin : Module → Function → Cast → Type 0
IsCastWithin m f x = IsConvertedWithin m f x.from x.operand x.to

-- Two modules, and the names of a function in each.
module _ (m n : Module) (locals others : List Text) where
  -- a bitcast
  abbrev pub IsCastAgain : Cast → Cast → Type 0
  IsCastAgain x y = IsTypeAgain m n x.from y.from × IsOperandAgain m n locals others x.operand y.operand × IsTypeAgain m n x.to y.to
