-- Which words of each struct are of type `ptr`.
use Rattle.std.proofs.Common.{◌≡◌, ◌<◌, ◌≤◌, ◌⊎◌, inl, inr, ℕ, suc, Bool, List, [], ◌∷◌, length, map, Some, slice_get, refl, ap, sym, ◌∙◌, arith}
use Rattle.ir_ast.specs.declared.items_of_module.StructType.{StructType}
use Rattle.ir_ast.specs.declared.module.Module.{Module}
use Rattle.types.specs.References.{is_opaque}
use Rattle.layout.specs.Words.{Scalars}
use Rattle.layout.specs.Rings.{one_list}
use Rattle.layout.specs.Survey.{struct_fields}
use Rattle.layout.specs.declared.survey.SizeMark.{SizeMark}

-- whether each word of a struct is of type `ptr`; a struct that has no words, since it holds itself or has more than 64, has an empty row
abbrev pub IsPointerRow : Module → StructType → List Bool → Type 0
IsPointerRow m struct row =
    ((fields : List ℕ) × Scalars m struct.body fields × (length fields ≤ 64) × (row ≡ map (is_opaque m) fields))
    ⊎ (((fields : List ℕ) → Scalars m struct.body fields → 64 < length fields) × (row ≡ []))

-- such a row for each struct
pub record ArePointerRows (m : Module) (rows : List (List Bool)) : Type 0 where
  pub one_each : length rows ≡ length m.structs
  pub each : (s : ℕ) (struct : StructType) (row : List Bool) → slice_get m.structs s ≡ Some struct → slice_get rows s ≡ Some row → IsPointerRow m struct row

-- the row of a struct, by what is known of the types
abbrev pub pointer_row : Module → List SizeMark → (fields : List ℕ) → StructType → List Bool
pointer_row m marks fields struct = map (is_opaque m) (struct_fields marks fields struct)

-- ---- there are no other rows

one_row : (m : Module) (struct : StructType) (row other : List Bool) → IsPointerRow m struct row → IsPointerRow m struct other → row ≡ other
one_row m struct row other (inl a) (inl b) = a.3 ∙ ap (λ (fields : List ℕ). map (is_opaque m) fields) (one_list m struct.body a.0 b.0 a.1 b.1) ∙ sym b.3
one_row m struct row other (inl a) (inr b) = let few = a.2 in let many = b.0 a.0 a.1 in absurd (omega (arith, few, many))
one_row m struct row other (inr a) (inl b) = let few = b.2 in let many = a.0 b.0 b.1 in absurd (omega (arith, few, many))
one_row m struct row other (inr a) (inr b) = a.1 ∙ sym b.1

abbrev AreRowsOf : Module → List StructType → List (List Bool) → Type 0
AreRowsOf m structs rows = (s : ℕ) (struct : StructType) (row : List Bool) → slice_get structs s ≡ Some struct → slice_get rows s ≡ Some row → IsPointerRow m struct row

rows_from : (m : Module) (structs : List StructType) (rows others : List (List Bool)) → length rows ≡ length structs → length others ≡ length structs → AreRowsOf m structs rows → AreRowsOf m structs others → rows ≡ others
rows_from m [] [] [] one other a b = refl
rows_from m [] (r ∷ rs) others one other a b = absurd (omega arith)
rows_from m [] [] (q ∷ qs) one other a b = absurd (omega arith)
rows_from m (st ∷ sts) [] others one other a b = absurd (omega arith)
rows_from m (st ∷ sts) (r ∷ rs) [] one other a b = absurd (omega arith)
rows_from m (st ∷ sts) (r ∷ rs) (q ∷ qs) one other a b =
    let first : r ≡ q = one_row m st r q (a 0 st r refl refl) (b 0 st q refl refl) in
    let more : rs ≡ qs = rows_from m sts rs qs (omega arith) (omega arith) (λ s. a (suc s)) (λ s. b (suc s)) in
    rw (first, more) refl

pub one_rows : (m : Module) (rows others : List (List Bool)) → ArePointerRows m rows → ArePointerRows m others → rows ≡ others
one_rows m rows others a b = rows_from m m.structs rows others a.one_each b.one_each a.each b.each
