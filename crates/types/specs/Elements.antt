-- The parts of a type, and the part that the indices of a getelementptr select. The section of the LLVM Language Reference is
-- 'getelementptr Instruction'.
use Rattle.std.specs.Prelude.{ℕ, zero, suc, Bool, true, false, ◌==◌, List, [], ◌∷◌, Option, Some, None, slice_get, if◌then◌else◌}
use Rattle.ir_ast.specs.declared.module.Module.{Module}
use Rattle.ir_ast.specs.declared.items_of_module.StructType.{StructType}
use Rattle.ir_ast.specs.declared.ir_type.IrType.{IrType}
use Rattle.ir_ast.specs.declared.ir_type.IrType.TheVariants.{Integer, Array, Struct, Named}
use Rattle.ir_ast.specs.declared.argument.Argument.{Argument}
use Rattle.ir_ast.specs.declared.operand.Constant.TheVariants.{Number}
use Rattle.ir_ast.specs.declared.operand.Operand.{Operand}
use Rattle.ir_ast.specs.declared.operand.Operand.TheVariants.{Constant as Fixed}
use Rattle.types.specs.References.{struct_named}

-- the struct type that a struct's name is defined as
abbrev pub body_in : Option StructType → Option ℕ
body_in None = None
body_in (Some struct) = Some struct.body

-- the struct type that a named struct is defined as, by its layout
abbrev pub body_of_layout : Module → (layout : Option ℕ) → Option ℕ
body_of_layout m None = None
body_of_layout m (Some layout) = body_in (slice_get m.structs layout)

-- the struct type that a name of the table of names is defined as, if it is defined
abbrev pub body_named : Module → (name : ℕ) → Option ℕ
body_named m name = body_of_layout m (struct_named m name)

-- the type with this number, if there is a number
abbrev pub type_at : Module → Option ℕ → Option IrType
type_at m None = None
type_at m (Some written) = slice_get m.types written

-- the type of the n-th field, from 0, of a struct type that is written out
abbrev pub field_in : Module → Option IrType → (n : ℕ) → Option ℕ
field_in m (Some (Struct first rest)) zero = Some first
field_in m (Some (Struct first rest)) (suc n) = field_in m (slice_get m.types rest) n
field_in m _ n = None

-- the struct type that a type is when it is written out: of a name its body, and else the type itself
abbrev pub written_out : Module → (written : ℕ) → Option IrType → Option ℕ
written_out m written None = None
written_out m written (Some (Named name)) = body_named m name
written_out m written _ = Some written

-- the type of the n-th field of a struct type, which may be a name
abbrev pub field_at : Module → (written n : ℕ) → Option ℕ
field_at m written n = field_in m (type_at m (written_out m written (slice_get m.types written))) n

-- whether this is an integer type
abbrev pub is_integer : Option IrType → Bool
is_integer (Some (Integer bits)) = true
is_integer _ = false

-- whether this is the type i32
abbrev pub is_i32 : Option IrType → Bool
is_i32 (Some (Integer bits)) = bits == 32
is_i32 _ = false

-- the number that an operand is
abbrev pub number_in : Operand → Option ℕ
number_in (Fixed (Number n)) = Some n
number_in _ = None

-- the number that an index is, if it is a constant of type i32, as an index into a struct has to be
abbrev pub index_number : Module → Argument → Option ℕ
index_number m index = if is_i32 (slice_get m.types index.written) then number_in index.operand else None

-- the field that a number selects, if there is a number
abbrev pub field_by : Module → (written : ℕ) → Option ℕ → Option ℕ
field_by m written None = None
field_by m written (Some n) = field_at m written n

-- the part of a type that an index selects: of an array its elements' type at any integer, of a struct a field
abbrev pub part_of : Module → (written : ℕ) → Option IrType → Argument → Option ℕ
part_of m written (Some (Array length part)) index = if is_integer (slice_get m.types index.written) then Some part else None
part_of m written _ index = field_by m written (index_number m index)

-- the part of a type that an index selects
abbrev pub part_at : Module → (written : ℕ) → Argument → Option ℕ
part_at m written index = part_of m written (slice_get m.types written) index

-- the part of a type that some indices select, one after the other
abbrev pub part_after : Module → Option ℕ → List Argument → Option ℕ
part_after m None indices = None
part_after m (Some written) [] = Some written
part_after m (Some written) (index ∷ indices) = part_after m (part_at m written index) indices

-- The type that the indices of a getelementptr select. The first steps over the pointer itself, the others into its parts.
abbrev pub element_type : Module → (source : ℕ) → List Argument → Option ℕ
element_type m source [] = None
element_type m source (first ∷ indices) = part_after m (Some source) indices
