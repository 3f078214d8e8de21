-- select: when it is printable, when its numbers are within the tables, and when one is another one again.
use Rattle.std.specs.Prelude.{List}
use Rattle.ir_ast.specs.declared.choices.Choice.{Choice}
use Rattle.ir_ast.specs.declared.function.Function.{Function}
use Rattle.ir_ast.specs.declared.module.Module.{Module}
use Rattle.ir_tokens.specs.Bytes.{Text}
use Rattle.ir_print_law.specs.Parts.{IsCondition, ArePair}
use Rattle.ir_print_law.specs.PartsWithin.{HasType, IsOperandWithin, ArePairWithin}
use Rattle.ir_print_law.specs.PartsAgain.{IsTypeAgain, IsOperandAgain, ArePairAgain}

-- a select
abbrev pub IsChoice : Module → Function → Choice → Type 0
IsChoice m f x = IsCondition m f x.condition_type x.condition × ArePair m f x.written x.chosen x.other

-- a select whose numbers are within the tables
abbrev pub IsChoiceWithin : Module → Function → Choice → Type 0
IsChoiceWithin m f x =
    HasType m x.condition_type × IsOperandWithin m f x.condition × ArePairWithin m f x.written x.chosen x.other

-- Two modules, and the names of a function in each.
module _ (m n : Module) (locals others : List Text) where
  -- a select
  abbrev pub IsChoiceAgain : Choice → Choice → Type 0
  IsChoiceAgain x y =
      IsTypeAgain m n x.condition_type y.condition_type × IsOperandAgain m n locals others x.condition y.condition × ArePairAgain m n locals others x.written x.chosen x.other y.written y.chosen y.other
