-- The scalar fields of each struct.
use Rattle.std.specs.Prelude.{◌≡◌, ◌<◌, ◌≤◌, ◌⊎◌, ℕ, List, [], length, Some, slice_get}
use Rattle.ir_ast.specs.declared.items_of_module.StructType.{StructType}
use Rattle.ir_ast.specs.declared.module.Module.{Module}
use Rattle.layout.specs.Words.{Scalars}

-- the scalar fields of a struct; a struct that has no words, since it holds itself or has more than 64, has an empty row
abbrev pub IsFieldRow : Module → StructType → List ℕ → Type 0
IsFieldRow m struct row =
    (Scalars m struct.body row × (length row ≤ 64)) ⊎ (((fields : List ℕ) → Scalars m struct.body fields → 64 < length fields) × (row ≡ []))

-- such a row for each struct
pub record AreFieldRows (m : Module) (rows : List (List ℕ)) : Type 0 where
  pub one_each : length rows ≡ length m.structs
  pub each : (s : ℕ) (struct : StructType) (row : List ℕ) → slice_get m.structs s ≡ Some struct → slice_get rows s ≡ Some row → IsFieldRow m struct row
