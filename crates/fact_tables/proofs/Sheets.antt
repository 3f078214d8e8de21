-- Rows of which few are filled.
use Rattle.std.proofs.Common.{◌≡◌, ◌⊎◌, ℕ, zero, suc, List, [], ◌∷◌, refl, sym, ap, subst, inl, inr, ◌∙◌, true, false, Bool, ◌++◌}
use Rattle.std.proofs.lemmas.List.{get_or-set_other}
use Rattle.std.specs.Prelude.{slice_set, replicate, if◌then◌else◌}
use Rattle.std.proofs.lemmas.Bool.{cases_eq}
use Rattle.lemmas.specs.Lists.{in_first, last_in, IsIn}
use Rattle.fact_tables.specs.declared.row.Row.{Row}
use Rattle.fact_tables.specs.Sheets.{blank, row_at, OnlyMarked, is_blank, with_mark}
use Rattle.fact_tables.proofs.Sets.{set_is}

-- a row that is filled is marked
pub set_marked : (v : ℕ) (row : Row) (marked : List ℕ) (rows : List Row) → OnlyMarked marked rows → OnlyMarked (with_mark v (row_at rows v) marked) (slice_set rows v row)
set_marked v row marked rows only u = pick (is_blank (row_at rows v)) refl (cases_eq v u) (only u) where
  pick : (b : Bool) → is_blank (row_at rows v) ≡ b → (v ≡ u) ⊎ (v ≡ u → ⊥) → IsIn u marked ⊎ (row_at rows u ≡ blank) → IsIn u (with_mark v (row_at rows v) marked) ⊎ (row_at (slice_set rows v row) u ≡ blank)
  pick true e (inl same) was = inl (rw e (subst (λ x. IsIn x (marked ++ v ∷ [])) same (last_in v marked)))
  pick true e (inr ne) (inl one) = inl (rw e (in_first u marked (v ∷ []) one))
  pick false e (inl same) (inl one) = inl (rw e one)
  pick false e (inl same) (inr empty) = let full : is_blank (row_at rows u) ≡ true = ap is_blank empty in let here : is_blank (row_at rows v) ≡ is_blank (row_at rows u) = ap (λ x. is_blank (row_at rows x)) same in absurd cc
  pick false e (inr ne) (inl one) = inl (rw e one)
  pick b e (inr ne) (inr empty) = inr (get_or-set_other rows v u row blank (λ x. ne (sym x)) ∙ empty)

pub blank_at : (count v : ℕ) → row_at (replicate count blank) v ≡ blank
blank_at zero v = refl
blank_at (suc count) zero = refl
blank_at (suc count) (suc v) = blank_at count v

-- where all rows are blank it does not matter which are marked
pub all_blank : (marked : List ℕ) (count : ℕ) (rows : List Row) → rows ≡ replicate count blank → OnlyMarked marked rows
all_blank marked count rows e v = inr (ap (λ l. row_at l v) e ∙ blank_at count v)

-- a row that is filled, or that stays blank
pub change_marked : (v : ℕ) (row : Row) (marked : List ℕ) (rows : List Row) → OnlyMarked marked rows → (row_at rows v ≡ blank → row ≡ blank) → OnlyMarked marked (slice_set rows v row)
change_marked v row marked rows only keeps u = pick (cases_eq v u) where
  pick : (v ≡ u) ⊎ (v ≡ u → ⊥) → IsIn u marked ⊎ (row_at (slice_set rows v row) u ≡ blank)
  pick (inl same) = elim (only v) [
    | inl one ↦ inl (subst (λ x. IsIn x marked) same one)
    | inr e ↦ inr (subst (λ x. row_at (slice_set rows v row) x ≡ blank) same (set_is (λ r. r) rows v row blank blank (keeps e) refl))
  ]
  pick (inr ne) = elim (only u) [ inl one ↦ inl one | inr e ↦ inr (get_or-set_other rows v u row blank (λ x. ne (sym x)) ∙ e) ]

-- more rows are marked
pub more_marked : (v : ℕ) (row : Row) (marked : List ℕ) (rows : List Row) → OnlyMarked marked rows → OnlyMarked (with_mark v row marked) rows
more_marked v row marked rows only u = elim (only u) [ inl one ↦ inl (pick (is_blank row) one) | inr e ↦ inr e ] where
  pick : (b : Bool) → IsIn u marked → IsIn u (if b then marked ++ v ∷ [] else marked)
  pick true one = in_first u marked (v ∷ []) one
  pick false one = one
