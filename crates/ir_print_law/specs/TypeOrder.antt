-- Tables of types in which the parts of a type come before it, and in which all pointers are of one kind.
use Rattle.std.specs.Prelude.{◌≡◌, ◌<◌, ℕ, Bool, true, false, List, Some, slice_get}
use Rattle.ir_ast.specs.declared.ir_type.IrType.{IrType}
use Rattle.ir_ast.specs.declared.ir_type.IrType.TheVariants as type
use Rattle.ir_forms.specs.Written.{has_opaque}

-- the parts of a type are before it; a pointer is of the text's kind, `ptr` or not
abbrev pub IsInOrder : (opaque : Bool) → (number : ℕ) → IrType → Type 0
IsInOrder opaque number (type.Struct first rest) = (first < number) × (rest < number)
IsInOrder opaque number (type.Array length part) = part < number
IsInOrder opaque number (type.Pointer part) = (opaque ≡ false) × (part < number)
IsInOrder opaque number type.Opaque = opaque ≡ true
IsInOrder opaque number _ = Unit {0}

-- so it is of each type of a table
abbrev pub AreInOrder : (opaque : Bool) → List IrType → Type 0
AreInOrder opaque types = (number : ℕ) (x : IrType) → slice_get types number ≡ Some x → IsInOrder opaque number x

-- the table tells the kind of its pointers
abbrev pub AreOrdered : List IrType → Type 0
AreOrdered types = AreInOrder (has_opaque types) types
