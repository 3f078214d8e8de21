-- Operations on memory: when they are printable, when their numbers are within the tables, and when one is another one again.
use Rattle.std.specs.Prelude.{ℕ, ◌≡◌, Bool, true, false, List, Option, Some, None}
use Rattle.ir_ast.specs.declared.argument.Argument.{Argument}
use Rattle.ir_ast.specs.declared.function.Function.{Function}
use Rattle.ir_ast.specs.declared.memory.MemoryOp.{MemoryOp}
use Rattle.ir_ast.specs.declared.memory.MemoryOp.TheVariants as memory
use Rattle.ir_ast.specs.declared.module.Module.{Module}
use Rattle.ir_tokens.specs.Bytes.{Text}
use Rattle.ir_forms.specs.declared.written.Word.TheVariants as sort
use Rattle.ir_print_law.specs.Shapes.{Shape, Integer, is_scalar_shape, word_of_shape}
use Rattle.ir_print_law.specs.Parts.{IsType, IsScalar, IsPlaceType, IsOperand}
use Rattle.ir_print_law.specs.PartsWithin.{HasType, IsOperandWithin, IsArgumentWithin}
use Rattle.ir_print_law.specs.PartsAgain.{IsTypeAgain, IsOperandAgain, IsArgumentAgain}

-- how many elements a buffer of a type of this shape has: a count is written at a type of integers, and only an array or a struct has none
abbrev pub IsCount : Module → Function → Shape → Option Argument → Type 0
IsCount m f shape None = is_scalar_shape shape ≡ false
IsCount m f shape (Some count) = (bits : ℕ) × IsScalar m (Integer bits) count.written × IsOperand m f (sort.Integer bits) count.operand

-- an operation on memory
abbrev pub IsMemoryOp : Module → Function → MemoryOp → Type 0
IsMemoryOp m f (memory.Alloca held) = (shape : Shape) × IsScalar m shape held
IsMemoryOp m f (memory.Buffer held count) = (m.wide ≡ true) × ((shape : Shape) × IsType m shape held × IsCount m f shape count)
IsMemoryOp m f (memory.Load loaded place_type place) =
    (shape : Shape) × IsScalar m shape loaded × IsPlaceType m shape loaded place_type × IsOperand m f sort.Pointer place
IsMemoryOp m f (memory.Store stored value place_type place) =
    (shape : Shape) × IsScalar m shape stored × IsOperand m f (word_of_shape shape) value × IsPlaceType m shape stored place_type × IsOperand m f sort.Pointer place

-- whether it gives a value: all do but stores
abbrev pub memory_gives_value : MemoryOp → Bool
memory_gives_value (memory.Store stored value place_type place) = false
memory_gives_value _ = true

-- how many elements a buffer has, whose numbers are within the tables
abbrev pub IsCountWithin : Module → Function → Option Argument → Type 0
IsCountWithin m f None = Unit {0}
IsCountWithin m f (Some count) = IsArgumentWithin m f count

-- an operation on memory, whose numbers are within the tables
abbrev pub IsMemoryOpWithin : Module → Function → MemoryOp → Type 0
IsMemoryOpWithin m f (memory.Alloca held) = HasType m held
IsMemoryOpWithin m f (memory.Buffer held count) = HasType m held × IsCountWithin m f count
IsMemoryOpWithin m f (memory.Load loaded place_type place) = HasType m loaded × HasType m place_type × IsOperandWithin m f place
IsMemoryOpWithin m f (memory.Store stored value place_type place) =
    HasType m stored × IsOperandWithin m f value × HasType m place_type × IsOperandWithin m f place

-- Two modules, and the names of a function in each.
module _ (m n : Module) (locals others : List Text) where
  -- how many elements a buffer has
  abbrev pub IsCountAgain : Option Argument → Option Argument → Type 0
  IsCountAgain None None = Unit {0}
  IsCountAgain (Some x) (Some y) = IsArgumentAgain m n locals others x y
  IsCountAgain _ _ = ⊥

  -- operations on memory
  abbrev pub IsMemoryOpAgain : MemoryOp → MemoryOp → Type 0
  IsMemoryOpAgain (memory.Alloca t) (memory.Alloca u) = IsTypeAgain m n t u
  IsMemoryOpAgain (memory.Buffer t x) (memory.Buffer u y) = IsTypeAgain m n t u × IsCountAgain x y
  IsMemoryOpAgain (memory.Load t place x) (memory.Load u other y) = IsTypeAgain m n t u × IsTypeAgain m n place other × IsOperandAgain m n locals others x y
  IsMemoryOpAgain (memory.Store t v place x) (memory.Store u w other y) = IsTypeAgain m n t u × IsOperandAgain m n locals others v w × IsTypeAgain m n place other × IsOperandAgain m n locals others x y
  IsMemoryOpAgain _ _ = ⊥
