-- What is printed of the stars of a type is read as pointer types.
use Rattle.std.specs.Prelude.{◌≡◌, ℕ, zero, suc, ◌+◌, ◌-◌, ◌<◌, ◌≤◌, ◌^◌, false, List, [], ◌∷◌, ◌++◌, length}
use Rattle.ir_ast.specs.Types.{number_of_type, numbered_type}
use Rattle.ir_ast.specs.declared.ir_type.IrType.{IrType}
use Rattle.ir_ast.specs.declared.ir_type.IrType.TheVariants.{Pointer}
use Rattle.ir_tokens.specs.declared.token.Kind.TheVariants as k
use Rattle.ir_tokens.specs.Bytes.{Text}
use Rattle.ir_forms.specs.Cursor.{sees}
use Rattle.ir_forms.specs.declared.input.Input.{Input}
use Rattle.ir_forms.specs.Written.{has_opaque, pointers}
use Rattle.ir_print_law.specs.Stands.{Stands}

-- n stars
abbrev pub stars : ℕ → Text
stars zero = []
stars (suc count) = 42 ∷ stars count

-- the number of the type with `count` stars after the one with this number
abbrev pub starred_number : (count number : ℕ) → List IrType → ℕ
starred_number zero number types = number
starred_number (suc count) number types = starred_number count (number_of_type (Pointer number) types) (numbered_type (Pointer number) types)

-- the table of types then
abbrev pub starred_types : (count number : ℕ) → List IrType → List IrType
starred_types zero number types = types
starred_types (suc count) number types = starred_types count (number_of_type (Pointer number) types) (numbered_type (Pointer number) types)

-- no star comes where these bytes come next
abbrev pub EndsStars : Text → Type 0
EndsStars rest = (i : Input) → Stands i.cursor rest → sees k.Star i.cursor ≡ false

-- n stars after a type are read as the pointers to it, where the type has room for n further levels and no type is `ptr`
abbrev pub StarsAreRead : Type 0
StarsAreRead =
    (from count room number : ℕ) (i : Input) (rest : Text) → count ≤ room → length i.types + count < 2 ^ 32 → has_opaque i.types ≡ false → EndsStars rest → Stands i.cursor (stars count ++ rest)
    → (o : Input) × (pointers from room number).says i (room - count, starred_number count number i.types) o × (o.types ≡ starred_types count number i.types) × Stands o.cursor rest
