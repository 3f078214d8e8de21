-- getelementptr: when it is printable, when its numbers are within the tables, and when one is another one again.
use Rattle.std.specs.Prelude.{◌<◌, List, length, None}
use Rattle.std.specs.List.{AllByRecursion}
use Rattle.ir_ast.specs.declared.elements.Element.{Element}
use Rattle.ir_ast.specs.declared.function.Function.{Function}
use Rattle.ir_ast.specs.declared.module.Module.{Module}
use Rattle.ir_tokens.specs.Bytes.{Text}
use Rattle.ir_forms.specs.declared.written.Word.TheVariants as sort
use Rattle.ir_print_law.specs.Shapes.{Shape}
use Rattle.ir_print_law.specs.Parts.{IsType, IsPlaceType, IsOperand, IsArgument}
use Rattle.ir_print_law.specs.PartsWithin.{HasType, IsOperandWithin, IsArgumentWithin}
use Rattle.ir_print_law.specs.PartsAgain.{AreAlike, IsTypeAgain, IsOperandAgain, IsArgumentAgain}

-- a getelementptr
abbrev pub IsElement : Module → Function → Element → Type 0
IsElement m f x =
    (shape : Shape) × IsType m shape x.source × IsPlaceType m shape x.source x.base_type × IsOperand m f sort.Pointer x.base × (0 < length x.indices)
    × AllByRecursion (IsArgument m f) x.indices

-- a getelementptr whose numbers are within the tables
abbrev pub IsElementWithin : Module → Function → Element → Type 0
IsElementWithin m f x =
    HasType m x.source × HasType m x.base_type × IsOperandWithin m f x.base × AllByRecursion (IsArgumentWithin m f) x.indices

-- Two modules, and the names of a function in each.
module _ (m n : Module) (locals others : List Text) where
  -- a getelementptr
  abbrev pub IsElementAgain : Element → Element → Type 0
  IsElementAgain x y =
      IsTypeAgain m n x.source y.source × IsTypeAgain m n x.base_type y.base_type × IsOperandAgain m n locals others x.base y.base × AreAlike (IsArgumentAgain m n locals others) x.indices y.indices
