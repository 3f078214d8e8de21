-- Parts of the instructions of printable modules: types, operands, and what instructions of several families have.
use Rattle.std.specs.Prelude.{◌≡◌, ℕ, ◌<◌, ◌≤◌, true, false, Option, Some, ◌⊎◌, slice_get}
use Rattle.lemmas.specs.Lists.{IsIn}
use Rattle.ir_ast.specs.declared.argument.Argument.{Argument}
use Rattle.ir_ast.specs.declared.function.Function.{Function}
use Rattle.ir_ast.specs.declared.ir_type.IrType.{IrType}
use Rattle.ir_ast.specs.declared.ir_type.IrType.TheVariants as type
use Rattle.ir_ast.specs.declared.module.Module.{Module}
use Rattle.ir_ast.specs.declared.operand.Operand.{Operand}
use Rattle.ir_ast.specs.declared.operand.Operand.TheVariants as operand
use Rattle.ir_forms.specs.Intrinsics.{is_intrinsic}
use Rattle.ir_forms.specs.Written.{has_opaque, is_float_word}
use Rattle.ir_forms.specs.declared.written.Word.TheVariants as sort
use Rattle.ir_forms.specs.declared.written.Word.{Word}
use Rattle.ir_print_law.specs.Fits.{FitsType}
use Rattle.ir_print.specs.Names.{name_at}
use Rattle.ir_print_law.specs.Shapes.{Shape, HasShape, IsWritten, levels, word_of_shape, is_scalar_shape, is_pointer_shape}
use Rattle.ir_print_law.specs.Definitions.{IsUsed, value_keys, target_keys, defined_structs}

-- ---- types

-- a type of this shape, which has at most 64 levels
abbrev pub IsType : Module → Shape → (written : ℕ) → Type 0
IsType m shape written = HasShape m.types m.struct_names shape written × (levels shape ≤ 64) × IsWritten m.wide (has_opaque m.types) (defined_structs m) shape

-- a type that a word holds
abbrev pub IsScalar : Module → Shape → (written : ℕ) → Type 0
IsScalar m shape written = IsType m shape written × (is_scalar_shape shape ≡ true)

-- a type in a constant bitcast
abbrev pub IsPointer : Module → (written : ℕ) → Type 0
IsPointer m written = (shape : Shape) × IsType m shape written × (is_pointer_shape shape ≡ true)

-- the type `void`
abbrev pub IsVoid : Module → (written : ℕ) → Type 0
IsVoid m written = slice_get m.types written ≡ Some type.Void

-- the type of a place of a value of this shape, whose type has this number: a pointer to it, or `ptr`
abbrev pub IsPlaceType : Module → Shape → (held place_type : ℕ) → Type 0
IsPlaceType m shape held place_type =
    ((has_opaque m.types ≡ false) × (slice_get m.types place_type ≡ Some (type.Pointer held)) × (levels shape < 64))
    ⊎ ((has_opaque m.types ≡ true) × (slice_get m.types place_type ≡ Some type.Opaque))

-- the word that a type of a table is; one that is no number counts as a pointer
abbrev pub word_of_type : Option IrType → Word
word_of_type (Some (type.Integer bits)) = sort.Integer bits
word_of_type (Some type.Float) = sort.Float
word_of_type (Some type.Double) = sort.Double
word_of_type _ = sort.Pointer

-- the type is one of floating point numbers
abbrev pub IsFloat : Module → (written : ℕ) → Type 0
IsFloat m written = is_float_word (word_of_type (slice_get m.types written)) ≡ true

-- the type is none of floating point numbers
abbrev pub IsNoFloat : Module → (written : ℕ) → Type 0
IsNoFloat m written = is_float_word (word_of_type (slice_get m.types written)) ≡ false

-- ---- operands

-- a global that is an operand: it is no function, and no intrinsic has its name
abbrev pub IsGlobalUse : Module → (symbol : ℕ) → Type 0
IsGlobalUse m symbol = IsUsed m false (name_at m.symbols symbol) × (is_intrinsic (name_at m.symbols symbol) ≡ false)

-- what an instruction of this function reads, at a type that is such a word
abbrev pub IsOperand : Module → Function → Word → Operand → Type 0
IsOperand m f word (operand.Constant x) = FitsType word x
IsOperand m f word (operand.Local value) = IsIn (name_at f.locals value) (value_keys f)
IsOperand m f word (operand.Global symbol) = IsGlobalUse m symbol
IsOperand m f word (operand.CastGlobal from symbol to) = IsPointer m from × IsGlobalUse m symbol × IsPointer m to

-- an operand with its type, which a word holds
abbrev pub IsArgument : Module → Function → Argument → Type 0
IsArgument m f x = (shape : Shape) × IsScalar m shape x.written × IsOperand m f (word_of_shape shape) x.operand

-- a block that may be branched to
abbrev pub IsTarget : Function → (label : ℕ) → Type 0
IsTarget f label = IsIn (name_at f.locals label) (target_keys f)

-- ---- parts of instructions

-- a condition has the type i1
abbrev pub IsCondition : Module → Function → (written : ℕ) → Operand → Type 0
IsCondition m f written x = (slice_get m.types written ≡ Some (type.Integer 1)) × IsOperand m f (sort.Integer 1) x

-- two operands of one type
abbrev pub ArePair : Module → Function → (written : ℕ) → (first second : Operand) → Type 0
ArePair m f written first second =
    (shape : Shape) × IsScalar m shape written × IsOperand m f (word_of_shape shape) first × IsOperand m f (word_of_shape shape) second

-- an operand and another type for it
abbrev pub IsConverted : Module → Function → (from : ℕ) → Operand → (to : ℕ) → Type 0
IsConverted m f from x to = IsArgument m f (record { written = from; operand = x }) × ((shape : Shape) × IsScalar m shape to)

-- what a call gives: nothing, or a value that a word holds
abbrev pub IsReturned : Module → (returned : ℕ) → Type 0
IsReturned m returned = IsVoid m returned ⊎ ((shape : Shape) × IsScalar m shape returned)
