-- The two kinds of pointer types: `ptr`, and those that say what they point to.
use Rattle.std.specs.Prelude.{Bool, true, false, List, Option, Some, None}
use Rattle.std.specs.List.{list_any}
use Rattle.ir_ast.specs.declared.ir_type.IrType.{IrType}
use Rattle.ir_ast.specs.declared.ir_type.IrType.TheVariants as type

-- a pointer type that says what it points to
abbrev pub is_typed_pointer : IrType → Bool
is_typed_pointer (type.Pointer part) = true
is_typed_pointer _ = false

-- so it is of the type at a place, if there is one
abbrev pub is_typed_at : Option IrType → Bool
is_typed_at None = false
is_typed_at (Some written) = is_typed_pointer written

-- one of these types is such a pointer
abbrev pub has_typed : List IrType → Bool
has_typed types = list_any is_typed_pointer types
