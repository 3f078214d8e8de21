-- Jumps over the fields of struct types, with the words of those fields.
use Rattle.std.specs.Prelude.{◌≡◌, ℕ, zero, suc, List, Option, Some, None, slice_get, unwrap_or}
use Rattle.ir_ast.specs.Fields.{after_fields}
use Rattle.ir_ast.specs.declared.ir_type.IrType.{IrType}
use Rattle.ir_ast.specs.declared.ir_type.IrType.TheVariants.{Struct}
use Rattle.layout.specs.Offsets.{sum_of}
use Rattle.layout.specs.declared.sizes.Over.{Over}

-- How many words the first n fields of a struct type have together. None where it has fewer fields, or where they have more than 64 words.
abbrev pub words_over : List IrType → List (Option ℕ) → Option IrType → (n : ℕ) → Option ℕ
words_over types sizes type zero = Some 0
words_over types sizes (Some (Struct first rest)) (suc n) = sum_of (unwrap_or (slice_get sizes first) None) (words_over types sizes (slice_get types rest) n)
words_over types sizes _ (suc n) = None

-- a jump leads from this type over as many fields and words as it says
abbrev pub IsOver : List IrType → List (Option ℕ) → (written : ℕ) → Over → Type 0
IsOver types sizes written over = (after_fields types (Some written) over.fields ≡ Some over.to) × (over.words ≡ words_over types sizes (slice_get types written) over.fields)

-- each type has a jump of its own, as far as there are jumps
abbrev pub AreOver : List IrType → List (Option ℕ) → List Over → Type 0
AreOver types sizes jumps = (written : ℕ) (over : Over) → slice_get jumps written ≡ Some over → IsOver types sizes written over
