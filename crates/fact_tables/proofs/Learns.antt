-- A class that is found to be not null, where a row is filled for it before.
use Rattle.std.proofs.Common.{◌≡◌, ◌<◌, ◌⊎◌, ◌++◌, ℕ, length, List, map, refl, sym, ap, subst, inl, inr, ◌∙◌, true, Bool, Option, Some, None, is_none, slice_set}
use Rattle.std.proofs.Math.Seq.{map-set_same}
use Rattle.std.proofs.lemmas.List.{get_or-set_other, length-map, length-set, map-set, set-append_left}
use Rattle.std.proofs.lemmas.Bool.{cases_eq}
use Rattle.lemmas.specs.Lists.{IsIn}
use Rattle.fact_tables.specs.declared.known.Class.{Class}
use Rattle.fact_tables.specs.declared.row.Row.{Row}
use Rattle.fact_tables.specs.declared.uses.Use.{Use}
use Rattle.fact_tables.specs.Rows.{class_at}
use Rattle.fact_tables.specs.Sheets.{blank, row_at, known_of, class_of, test_of, names}
use Rattle.fact_tables.specs.Uses.{chain, OnlyUsers, SayTheSame}
use Rattle.fact_tables.specs.Values.{facts_of_rows, learned, learned_row}
use Rattle.fact_tables.proofs.Says.{same_facts}
use Rattle.fact_tables.proofs.Sets.{set_part, or_true}
use Rattle.fact_tables.proofs.Users.{chain_none, users_set}

-- ---- a row that is filled

pub none_is : (used : Option ℕ) → is_none used ≡ true → used ≡ None
none_is None e = refl
none_is (Some at) e = absurd cc

module _ (rows : List Row) (at : ℕ) (newest : ℕ) where
  abbrev pub filled_row : Row
  filled_row = record (row_at rows at) { used = Some newest }

  pub filled_same : SayTheSame rows (slice_set rows at filled_row)
  filled_same added = same_facts _ _ _ _ _ _ (map-set_same known_of rows at filled_row blank refl) (ap (λ (l : List Class). l ++ added) (map-set_same class_of rows at filled_row blank refl)) (map-set_same test_of rows at filled_row blank refl)

  pub filled_users : (uses : List Use) → (row_at rows at).used ≡ None → OnlyUsers uses rows → OnlyUsers uses (slice_set rows at filled_row)
  filled_users uses free only u w e lt = pick (cases_eq at w) where
    one : IsIn u (chain (length uses) uses (row_at rows w).used)
    one = only u w (sym (set_part (names w) rows at u filled_row blank refl) ∙ e) (rw (← length-set rows at filled_row) lt)

    none : IsIn u (chain (length uses) uses (row_at rows at).used) → ⊥
    none h = subst (λ (us : List ℕ). IsIn u us) (ap (chain (length uses) uses) free ∙ chain_none (length uses) uses None refl) h

    pick : (at ≡ w) ⊎ (at ≡ w → ⊥) → IsIn u (chain (length uses) uses (row_at (slice_set rows at filled_row) w).used)
    pick (inl same) = absurd (none (subst (λ x. IsIn u (chain (length uses) uses (row_at rows x).used)) (sym same) one))
    pick (inr ne) = subst (λ (row : Row). IsIn u (chain (length uses) uses row.used)) (sym (get_or-set_other rows at w filled_row blank (λ x. ne (sym x)))) one

-- ---- a class that is learned

-- not null
abbrev pub nonnull_class : Class → Class
nonnull_class class = record class { nonnull = true }

module _ (rows : List Row) (added : List Class) (c : ℕ) where
  abbrev classes : List Class
  classes = map class_of rows ++ added

  -- not null, or not null
  pub is_learned : record (facts_of_rows rows added) { classes = slice_set classes c (nonnull_class (class_at classes c)) } ≡ learned c true (facts_of_rows rows added)
  is_learned = ap (λ (b : Bool). record (facts_of_rows rows added) { classes = slice_set classes c (record (class_at classes c) { nonnull = b }) }) (sym (or_true (class_at classes c).nonnull))

  pub learned_row_facts : (class : Class) → c < length rows → facts_of_rows (slice_set rows c (learned_row class (row_at rows c))) added ≡ record (facts_of_rows rows added) { classes = slice_set classes c class }
  learned_row_facts class lt = let row = learned_row class (row_at rows c) in
      same_facts _ _ _ _ _ _ (map-set_same known_of rows c row blank refl) (ap (λ (l : List Class). l ++ added) (map-set class_of rows c row) ∙ sym (set-append_left (map class_of rows) added c class (rw length-map lt))) (map-set_same test_of rows c row blank refl)

pub learned_users : (uses : List Use) (rows : List Row) (c : ℕ) (class : Class) → OnlyUsers uses rows → OnlyUsers uses (slice_set rows c (learned_row class (row_at rows c)))
learned_users uses rows c class only = users_set uses rows c (learned_row class (row_at rows c)) only refl (λ w e lt. only c w e lt)
