-- A value that nothing names, and classes that go.
use Rattle.std.proofs.Common.{◌≡◌, ◌<◌, inl, inr, ℕ, List, ◌++◌, ◌+◌, length, take, map, refl, sym, ap, subst, arith, ◌∙◌, Option, None, slice_set}
use Rattle.std.proofs.lemmas.List.{length-append, length-map, map-set}
use Rattle.std.proofs.Math.Seq.{map-set_same, take-append-add}
use Rattle.std.specs.Prelude.{false}
use Rattle.lemmas.specs.Bools.{yes_or_no}
use Rattle.lemmas.specs.Lists.{IsIn}
use Rattle.fact_tables.specs.declared.known.Class.{Class}
use Rattle.fact_tables.specs.declared.known.Known.{Known}
use Rattle.fact_tables.specs.declared.known.Known.TheVariants.{Nothing}
use Rattle.fact_tables.specs.declared.known.Test.{Test}
use Rattle.fact_tables.specs.declared.row.Row.{Row}
use Rattle.fact_tables.specs.declared.sweeps.Change.TheVariants.{Off}
use Rattle.fact_tables.specs.declared.uses.Use.{Use}
use Rattle.fact_tables.specs.Rows.{off_base, off_test, values_without, tests_without}
use Rattle.fact_tables.specs.Sheets.{blank, row_at, known_of, class_of, test_of, names, EachRow, changed}
use Rattle.fact_tables.specs.Uses.{chain, IsUser, OnlyUsers}
use Rattle.fact_tables.proofs.Says.{each_mapped}
use Rattle.fact_tables.proofs.Users.{chain_none, off_same}

module _ (v : ℕ) (uses : List Use) (rows : List Row) (only : OnlyUsers uses rows) (lt : v < length rows) (unused : (row_at rows v).used ≡ None) where
  unnamed : (u : ℕ) → names v (row_at rows u) ≡ false
  unnamed u = elim (yes_or_no (names v (row_at rows u))) [ inl e ↦ absurd (none (only u v e lt)) | inr e ↦ e ] where
    none : IsUser uses rows u v → ⊥
    none one = subst (IsIn u) (ap (chain (length uses) uses) unused ∙ chain_none (length uses) uses None refl) one

  unchanged : EachRow (changed (Off v)) rows rows
  unchanged = (refl, λ u at. sym (off_same v (row_at rows u) (unnamed u)))

  pub values_alone : values_without v (map known_of rows) ≡ slice_set (map known_of rows) v Nothing
  values_alone = ap (λ (l : List Known). slice_set l v Nothing) (sym (each_mapped known_of (changed (Off v)) rows rows unchanged (off_base v) (λ u row. refl)))

  pub tests_alone : (row_at rows v).test ≡ None → tests_without v (map test_of rows) ≡ map test_of rows
  tests_alone untested = ap (λ (l : List (Option Test)). slice_set l v None) (sym (each_mapped test_of (changed (Off v)) rows rows unchanged (off_test v) (λ u row. refl)))
      ∙ sym (map-set test_of rows v row) ∙ map-set_same test_of rows v row blank (sym untested)
    where
      row : Row
      row = record (row_at rows v) { test = None }

-- the classes that are left of those of rows and those that were added
pub classes_left : (rows others : List Row) (added more : List Class) → length (map known_of rows) ≡ length (map known_of others) → map class_of rows ++ take (length more) added ≡ take (length (map class_of others ++ more)) (map class_of rows ++ added)
classes_left rows others added more e = sym (ap (λ (n : ℕ). take n (map class_of rows ++ added)) long ∙ take-append-add (map class_of rows) added (length more)) where
  long : length (map class_of others ++ more) ≡ length (map class_of rows) + length more
  long = omega (arith, e, length-append (map class_of others) more, length-map others class_of, length-map rows class_of, length-map others known_of, length-map rows known_of)
