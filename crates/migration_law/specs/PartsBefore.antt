-- Tables of types in which the parts of a type come before it.
use Rattle.std.specs.Prelude.{◌≡◌, ◌<◌, ℕ, List, Some, slice_get}
use Rattle.ir_ast.specs.declared.ir_type.IrType.{IrType}
use Rattle.ir_ast.specs.declared.ir_type.IrType.TheVariants as type
use Rattle.ir_ast.specs.declared.module.Module.{Module}
use Rattle.ir_print_law.specs.Wholes.{IsWhole}

-- an array comes after the type of its elements, and a struct after its fields
abbrev pub ComesAfterParts : (number : ℕ) → IrType → Type 0
ComesAfterParts number (type.Array length part) = part < number
ComesAfterParts number (type.Struct first rest) = (first < number) × (rest < number)
ComesAfterParts number _ = Unit {0}

-- so it is of each type of a table
abbrev pub ArePartsBefore : List IrType → Type 0
ArePartsBefore types = (number : ℕ) (x : IrType) → slice_get types number ≡ Some x → ComesAfterParts number x

-- so it is of the table of each whole module
abbrev pub AreWholeBefore : Type 0
AreWholeBefore = (m : Module) → IsWhole m → ArePartsBefore m.types
