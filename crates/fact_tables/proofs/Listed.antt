-- Rows that are listed, where something holds of each row that is not.
use Rattle.std.proofs.Common.{◌≡◌, ◌⊎◌, ℕ, length, List, [], ◌∷◌, ◌++◌, refl, sym, ap, subst, inl, inr, ◌∙◌, true, false, Bool, slice_set}
use Rattle.std.proofs.lemmas.Bool.{cases_eq, cases_lt}
use Rattle.std.proofs.lemmas.List.{get_or_past, get_or-set_other}
use Rattle.std.specs.Prelude.{not, ◌&&◌, if◌then◌else◌}
use Rattle.lemmas.specs.Lists.{in_first, last_in, IsIn}
use Rattle.fact_tables.specs.declared.row.Row.{Row}
use Rattle.fact_tables.specs.Sheets.{blank, row_at, EachRow}
use Rattle.fact_tables.proofs.Sets.{set_is}

-- this holds of each row that is not listed
abbrev pub Unless : (p : ℕ → Row → Bool) → (listed : List ℕ) → List Row → Type 0
Unless p listed rows = (v : ℕ) → IsIn v listed ⊎ (p v (row_at rows v) ≡ true)

-- the rows that are listed once v has another row
abbrev pub with_row : (p : ℕ → Row → Bool) → (v : ℕ) → (before after : Row) → List ℕ → List ℕ
with_row p v before after listed = if p v before && not (p v after) then listed ++ v ∷ [] else listed

-- ---- all rows change

module _ (change : ℕ → Row → Row) (leaves : (v : ℕ) → change v blank ≡ blank) (before after : List Row) (each : EachRow change before after) where
  pub row_after : (v : ℕ) → row_at after v ≡ change v (row_at before v)
  row_after v = elim (cases_lt v (length before)) [ inl lt ↦ each.1 v lt | inr past ↦ get_or_past after v blank (rw each.0 past) ∙ sym (ap (change v) (get_or_past before v blank past) ∙ leaves v) ]

  pub unless_after : (p : ℕ → Row → Bool) (listed : List ℕ) → ((v : ℕ) (row : Row) → p v row ≡ true → p v (change v row) ≡ true) → Unless p listed before → Unless p listed after
  unless_after p listed keeps only v = elim (only v) [ inl one ↦ inl one | inr e ↦ inr (subst (λ (row : Row). p v row ≡ true) (sym (row_after v)) (keeps v (row_at before v) e)) ]

-- ---- a row that is written

module _ (p : ℕ → Row → Bool) (of_blank : (v : ℕ) → p v blank ≡ true) (v : ℕ) (row : Row) (listed : List ℕ) (rows : List Row) (only : Unless p listed rows) where
  abbrev after : List Row
  after = slice_set rows v row

  holds_now : p v row ≡ true → p v (row_at after v) ≡ true
  holds_now e = set_is (p v) rows v row blank true e (of_blank v)

  as_before : (u : ℕ) → (v ≡ u → ⊥) → IsIn u listed ⊎ (p u (row_at after u) ≡ true)
  as_before u ne = elim (only u) [ inl one ↦ inl one | inr e ↦ inr (subst (λ (r : Row). p u r ≡ true) (sym (get_or-set_other rows v u row blank (λ x. ne (sym x)))) e) ]

  pub set_unless : Unless p (with_row p v (row_at rows v) row listed) after
  set_unless u = pick (p v (row_at rows v)) refl (p v row) refl (cases_eq v u) where
    one_of : (b : Bool) → IsIn u listed → IsIn u (if b then listed ++ v ∷ [] else listed)
    one_of true one = in_first u listed (v ∷ []) one
    one_of false one = one

    old : IsIn u listed ⊎ (p u (row_at after u) ≡ true) → IsIn u (with_row p v (row_at rows v) row listed) ⊎ (p u (row_at after u) ≡ true)
    old (inl one) = inl (one_of (p v (row_at rows v) && not (p v row)) one)
    old (inr e) = inr e

    was : p v (row_at rows v) ≡ false → v ≡ u → IsIn u listed ⊎ (p v (row_at rows v) ≡ true) → IsIn u listed
    was e same (inl one) = one
    was e same (inr h) = absurd cc

    pick : (a : Bool) → p v (row_at rows v) ≡ a → (b : Bool) → p v row ≡ b → (v ≡ u) ⊎ (v ≡ u → ⊥) → IsIn u (with_row p v (row_at rows v) row listed) ⊎ (p u (row_at after u) ≡ true)
    pick a e b h (inr ne) = old (as_before u ne)
    pick a e true h (inl same) = inr (subst (λ x. p x (row_at after x) ≡ true) same (holds_now h))
    pick true e false h (inl same) = inl (rw (e, h) (subst (λ x. IsIn x (listed ++ v ∷ [])) same (last_in v listed)))
    pick false e false h (inl same) = old (inl (was e same (subst (λ x. IsIn x listed ⊎ (p v (row_at rows v) ≡ true)) same (only v))))

  -- a row that is listed, or of which it holds
  pub put_unless : IsIn v listed ⊎ (p v row ≡ true) → Unless p listed after
  put_unless recorded u = pick (cases_eq v u) where
    pick : (v ≡ u) ⊎ (v ≡ u → ⊥) → IsIn u listed ⊎ (p u (row_at after u) ≡ true)
    pick (inr ne) = as_before u ne
    pick (inl same) = elim recorded [ inl one ↦ inl (subst (λ x. IsIn x listed) same one) | inr e ↦ inr (subst (λ x. p x (row_at after x) ≡ true) same (holds_now e)) ]

  pub change_unless : (p v (row_at rows v) ≡ true → p v row ≡ true) → Unless p listed after
  change_unless keeps u = pick (cases_eq v u) where
    pick : (v ≡ u) ⊎ (v ≡ u → ⊥) → IsIn u listed ⊎ (p u (row_at after u) ≡ true)
    pick (inr ne) = as_before u ne
    pick (inl same) = elim (only v) [ inl one ↦ inl (subst (λ x. IsIn x listed) same one) | inr e ↦ inr (subst (λ x. p x (row_at after x) ≡ true) same (holds_now (keeps e))) ]

-- more rows are listed
pub more_unless : (p : ℕ → Row → Bool) (v : ℕ) (before after : Row) (listed next : List ℕ) (rows : List Row) → next ≡ with_row p v before after listed → Unless p listed rows → Unless p next rows
more_unless p v before after listed next rows e only u = elim (only u) [ inl one ↦ inl (subst (IsIn u) (sym e) (pick (p v before && not (p v after)) one)) | inr h ↦ inr h ] where
  pick : (b : Bool) → IsIn u listed → IsIn u (if b then listed ++ v ∷ [] else listed)
  pick true one = in_first u listed (v ∷ []) one
  pick false one = one
