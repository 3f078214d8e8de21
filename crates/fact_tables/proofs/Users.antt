-- Chains of uses, and which rows use a value.
use Rattle.std.proofs.Common.{◌≡◌, ◌<◌, ◌≤◌, ◌⊎◌, ◌+◌, ◌-◌, arith, ℕ, length, zero, suc, List, [], ◌∷◌, ◌++◌, refl, sym, ap, subst, inl, inr, ◌∙◌, true, false, Bool, Option, Some, None, slice_set}
use Rattle.std.proofs.lemmas.Bool.{cases_eq, cases_lt}
use Rattle.std.proofs.lemmas.List.{get_or_past, get_or-set_same, get_or-set_other, length-set}
use Rattle.std.proofs.Math.Seq.{map-set_same}
use Rattle.std.specs.Prelude.{if◌then◌else◌}
use Rattle.lemmas.specs.Bools.{or_second, or_parts, or_neither, yes_or_no}
use Rattle.lemmas.specs.Lists.{get_end, IsIn}
use Rattle.fact_tables.specs.EachListed.{each_listed}
use Rattle.fact_tables.specs.declared.known.Class.{Class}
use Rattle.fact_tables.specs.declared.known.Known.{Known}
use Rattle.fact_tables.specs.declared.known.Test.{Test}
use Rattle.fact_tables.specs.declared.row.Row.{Row}
use Rattle.fact_tables.specs.declared.uses.Use.{Use}
use Rattle.fact_tables.specs.declared.known.Known.TheVariants.{Nothing}
use Rattle.fact_tables.specs.declared.sweeps.Change.TheVariants.{Off}
use Rattle.fact_tables.specs.Rows.{is_on, off_test}
use Rattle.fact_tables.specs.Sheets.{blank, row_at, known_of, class_of, test_of, tests, names, EachRow, off_row, changed}
use Rattle.fact_tables.specs.Uses.{use_at, users_of, chain, IsUser, OnlyUsers, use_more, use_row, SayTheSame}
use Rattle.fact_tables.proofs.Sets.{set_part}
use Rattle.fact_tables.proofs.Current.{all_listed}
use Rattle.fact_tables.proofs.Marked.{changed_twice}
use Rattle.fact_tables.proofs.Says.{same_facts}

-- ---- one use more

use_kept : (uses : List Use) (x found : Use) (at : Option ℕ) → use_at uses at ≡ Some found → use_at (uses ++ x ∷ []) at ≡ Some found
use_kept uses x found None e = absurd cc
use_kept [] x found (Some at) e = absurd cc
use_kept (y ∷ ys) x found (Some zero) e = e
use_kept (y ∷ ys) x found (Some (suc at)) e = use_kept ys x found (Some at) e

length_more : (uses : List Use) (x : Use) → length (uses ++ x ∷ []) ≡ suc (length uses)
length_more [] x = refl
length_more (y ∷ ys) x = ap suc (length_more ys x)

-- a chain has the same users, however far it may go, once there are more uses
chain_more : (count : ℕ) (uses : List Use) (x : Use) (at : Option ℕ) (u : ℕ) → IsIn u (chain count uses at) → IsIn u (chain count (uses ++ x ∷ []) at)
chain_more zero uses x at u one = absurd one
chain_more (suc count) uses x at u one = pick (use_at uses at) refl (λ before. chain_more count uses x before u) one where
  pick : (found : Option Use) → use_at uses at ≡ found → ((before : Option ℕ) → IsIn u (chain count uses before) → IsIn u (chain count (uses ++ x ∷ []) before)) → IsIn u (users_of found (chain count uses)) → IsIn u (chain (suc count) (uses ++ x ∷ []) at)
  pick None e more one = absurd one
  pick (Some found) e more one = subst (λ (last : Option Use). IsIn u (users_of last (chain count (uses ++ x ∷ [])))) (sym (use_kept uses x found at e)) (elim one [ inl same ↦ inl same | inr rest ↦ inr (more found.before rest) ])

chain_longer : (count : ℕ) (uses : List Use) (at : Option ℕ) (u : ℕ) → IsIn u (chain count uses at) → IsIn u (chain (suc count) uses at)
chain_longer zero uses at u one = absurd one
chain_longer (suc count) uses at u one = pick (use_at uses at) (λ before. chain_longer count uses before u) one where
  pick : (found : Option Use) → ((before : Option ℕ) → IsIn u (chain count uses before) → IsIn u (chain (suc count) uses before)) → IsIn u (users_of found (chain count uses)) → IsIn u (users_of found (chain (suc count) uses))
  pick None more one = absurd one
  pick (Some found) more one = elim one [ inl same ↦ inl same | inr rest ↦ inr (more found.before rest) ]

module _ (uses : List Use) (x : Use) where
  abbrev more : List Use
  more = uses ++ x ∷ []

  pub user_kept : (at : Option ℕ) (u : ℕ) → IsIn u (chain (length uses) uses at) → IsIn u (chain (length more) more at)
  user_kept at u one = subst (λ n. IsIn u (chain n more at)) (sym (length_more uses x)) (chain_longer (length uses) more at u (chain_more (length uses) uses x at u one))

  pub newest : (u : ℕ) → (u ≡ x.user) ⊎ IsIn u (chain (length uses) uses x.before) → IsIn u (chain (length more) more (Some (length uses)))
  newest u one = subst (λ n. IsIn u (chain n more (Some (length uses)))) (sym (length_more uses x)) (subst (λ (found : Option Use). IsIn u (users_of found (chain (length uses) more))) (sym (get_end uses x)) (elim one [ inl same ↦ inl same | inr rest ↦ inr (chain_more (length uses) uses x x.before u rest) ]))

  pub users_kept : (rows : List Row) → OnlyUsers uses rows → OnlyUsers more rows
  users_kept rows only u w e lt = user_kept (row_at rows w).used u (only u w e lt)

module _ (u v : ℕ) (uses : List Use) (rows : List Row) where
  abbrev row : Row
  row = record (row_at rows v) { used = Some (length uses) }

  abbrev found : Use
  found = record { user = u; before = (row_at rows v).used }

  -- v is used by u, and by what used it
  pub use_users : OnlyUsers uses rows → OnlyUsers (use_more u v rows uses) (use_row v uses rows)
  use_users only a w e lt = pick (cases_eq v w) where
    long : w < length rows
    long = rw (← length-set rows v row) lt

    was : IsIn a (chain (length uses) uses (row_at rows w).used)
    was = only a w (sym (set_part (names w) rows v a row blank refl) ∙ e) long

    pick : (v ≡ w) ⊎ (v ≡ w → ⊥) → IsIn a (chain (length (use_more u v rows uses)) (use_more u v rows uses) (row_at (use_row v uses rows) w).used)
    pick (inl same) =
        let is : row_at (use_row v uses rows) w ≡ row = subst (λ x. row_at (use_row v uses rows) x ≡ row) same (get_or-set_same rows v row blank (subst (λ x. x < length rows) (sym same) long)) in
        let before : IsIn a (chain (length uses) uses (row_at rows v).used) = subst (λ x. IsIn a (chain (length uses) uses (row_at rows x).used)) (sym same) was in
        subst (λ (r : Row). IsIn a (chain (length (use_more u v rows uses)) (use_more u v rows uses) r.used)) (sym is) (newest uses found a (inr before))
    pick (inr ne) = subst (λ (r : Row). IsIn a (chain (length (use_more u v rows uses)) (use_more u v rows uses) r.used)) (sym (get_or-set_other rows v w row blank (λ x. ne (sym x)))) (user_kept uses found (row_at rows w).used a was)

  pub use_recorded : v < length (use_row v uses rows) → IsUser (use_more u v rows uses) (use_row v uses rows) u v
  use_recorded lt = subst (λ (r : Row). IsIn u (chain (length (use_more u v rows uses)) (use_more u v rows uses) r.used)) (sym (get_or-set_same rows v row blank (rw (← length-set rows v row) lt))) (newest uses found u (inl refl))

  -- a value that is used says nothing more
  pub use_same : SayTheSame rows (use_row v uses rows)
  use_same added = same_facts _ _ _ _ _ _ (map-set_same known_of rows v row blank refl) (ap (λ l. l ++ added) (map-set_same class_of rows v row blank refl)) (map-set_same test_of rows v row blank refl)

-- ---- rows that change

-- a row that is written names only what it is recorded for, and is used as it was
pub users_set : (uses : List Use) (rows : List Row) (v : ℕ) (row : Row) → OnlyUsers uses rows → row.used ≡ (row_at rows v).used → ((w : ℕ) → names w row ≡ true → w < length rows → IsUser uses rows v w) → OnlyUsers uses (slice_set rows v row)
users_set uses rows v row only same says u w e lt = subst (λ (used : Option ℕ). IsIn u (chain (length uses) uses used)) (sym (set_part (λ r. r.used) rows v w row blank same)) (pick (cases_eq v u)) where
  long : w < length rows
  long = rw (← length-set rows v row) lt

  pick : (v ≡ u) ⊎ (v ≡ u → ⊥) → IsUser uses rows u w
  pick (inl is) = here (cases_lt v (length rows)) where
    now : names w (row_at (slice_set rows v row) v) ≡ true
    now = subst (λ x. names w (row_at (slice_set rows v row) x) ≡ true) (sym is) e

    here : (v < length rows) ⊎ (length rows ≤ v) → IsUser uses rows u w
    here (inl at) = subst (λ x. IsUser uses rows x w) is (says w (ap (names w) (sym (get_or-set_same rows v row blank at)) ∙ now) long)
    here (inr past) = let none = ap (names w) (get_or_past (slice_set rows v row) v blank (rw length-set past)) in absurd cc
  pick (inr ne) = only u w (ap (names w) (sym (get_or-set_other rows v u row blank (λ x. ne (sym x)))) ∙ e) long

module _ (uses : List Use) (rows : List Row) (v : ℕ) (only : OnlyUsers uses rows) where
  pub known_users : (known : Known) → ((w : ℕ) → is_on w known ≡ true → w < length rows → IsUser uses rows v w) → OnlyUsers uses (slice_set rows v (record (row_at rows v) { known = known }))
  known_users known recorded = users_set uses rows v (record (row_at rows v) { known = known }) only refl (λ w e lt. elim (or_parts (is_on w known) (tests w (row_at rows v).test) e) [
    | inl on ↦ recorded w on lt
    | inr tested ↦ only v w (or_second (is_on w (row_at rows v).known) (tests w (row_at rows v).test) tested) lt
  ])

  pub class_users : (class : Class) → OnlyUsers uses (slice_set rows v (record (row_at rows v) { class = class }))
  class_users class = users_set uses rows v (record (row_at rows v) { class = class }) only refl (λ w e lt. only v w e lt)

-- rows that change in neither name the same values
pub users_each : (uses : List Use) (change : ℕ → Row → Row) (before after : List Row) → EachRow change before after → ((u v : ℕ) (row : Row) → names v (change u row) ≡ names v row) → ((u : ℕ) (row : Row) → (change u row).used ≡ row.used) → OnlyUsers uses before → OnlyUsers uses after
users_each uses change before after each same kept only u v e lt = pick (cases_lt u (length before)) where
  long : v < length before
  long = rw (← each.0) lt

  pick : (u < length before) ⊎ (length before ≤ u) → IsUser uses after u v
  pick (inl at) = subst (λ (used : Option ℕ). IsIn u (chain (length uses) uses used)) (sym (ap (λ r. r.used) (each.1 v long) ∙ kept v (row_at before v))) (only u v (sym (ap (names v) (each.1 u at) ∙ same u v (row_at before u)) ∙ e) long)
  pick (inr past) = let none = ap (names v) (get_or_past after u blank (rw each.0 past)) in absurd cc

-- ---- rows that are changed along a chain

pub chain_none : (count : ℕ) (uses : List Use) (at : Option ℕ) → use_at uses at ≡ None → chain count uses at ≡ []
chain_none zero uses at e = refl
chain_none (suc count) uses at e = ap (λ (found : Option Use). users_of found (chain count uses)) e

pub off_same : (v : ℕ) (row : Row) → names v row ≡ false → off_row v row ≡ row
off_same v row e = let parts = or_neither (is_on v row.known) (tests v row.test) e in ap (λ (b : Bool). record row { known = if b then Nothing else row.known; test = off_test v row.test }) parts.0 ∙ ap (λ (t : Option Test). record row { test = t }) (same row.test parts.1) where
  same : (test : Option Test) → tests v test ≡ false → off_test v test ≡ test
  same None e = refl
  same (Some test) e = ap (λ (b : Bool). if b then None else Some test) e

-- a row of the users that ends to name a value is every row
pub off_users : (v : ℕ) (uses : List Use) (rows : List Row) → v < length rows → OnlyUsers uses rows → EachRow (changed (Off v)) rows (each_listed blank (changed (Off v)) (chain (length uses) uses (row_at rows v).used) rows)
off_users v uses rows at only = all_listed (changed (Off v)) (changed_twice (Off v)) (chain (length uses) uses (row_at rows v).used) rows (λ u lt. elim (yes_or_no (names v (row_at rows u))) [ inl e ↦ inl (only u v e at) | inr e ↦ inr (off_same v (row_at rows u) e) ])

pub chain_step : (g : ℕ → Row → Row) (count step : ℕ) (uses : List Use) (at : Option ℕ) (found : Use) (first rows next : List Row) → step < count → first ≡ each_listed blank g (chain (count - step) uses at) rows → use_at uses at ≡ Some found
    → next ≡ slice_set rows found.user (g found.user (row_at rows found.user)) → first ≡ each_listed blank g (chain (count - (step + 1)) uses found.before) next
chain_step g count step uses at found first rows next lt e is changed =
    let left : count - step ≡ suc (count - (step + 1)) = omega arith in
    e ∙ ap (λ n. each_listed blank g (chain n uses at) rows) left ∙ ap (λ (f : Option Use). each_listed blank g (users_of f (chain (count - (step + 1)) uses)) rows) is ∙ ap (each_listed blank g (chain (count - (step + 1)) uses found.before)) (sym changed)
