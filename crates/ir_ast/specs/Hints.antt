-- Types that were found last, with their numbers.
use Rattle.std.specs.Prelude.{◌≡◌, ℕ, List, Option, Some, slice_get}
use Rattle.ir_ast.specs.declared.ir_type.IrType.{IrType}
use Rattle.ir_ast.specs.declared.hint.Hint.{Hint}
use Rattle.ir_ast.specs.Types.{place_of_type}

-- a hint is right: its type is there first at its number
abbrev pub IsHint : List IrType → Hint → Type 0
IsHint types hint = place_of_type hint.written types ≡ Some hint.number

-- each hint is right
abbrev pub AreHints : List IrType → List (Option Hint) → Type 0
AreHints types hints = (place : ℕ) (hint : Hint) → slice_get hints place ≡ Some (Some hint) → IsHint types hint

-- some hint has this type and this number
abbrev pub IsHinted : List (Option Hint) → IrType → (number : ℕ) → Type 0
IsHinted hints sought number = (place : ℕ) × slice_get hints place ≡ Some (Some (record { written = sought; number = number }))
