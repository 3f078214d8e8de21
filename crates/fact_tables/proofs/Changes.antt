-- What rows say and name once all of them are changed.
use Rattle.std.proofs.Common.{◌≡◌, ◌<◌, ◌≤◌, ◌⊎◌, ◌+◌, ℕ, length, zero, suc, List, [], ◌∷◌, ◌++◌, get_or, map, refl, sym, ap, subst, inl, inr, ◌∙◌, arith, true, false, Bool, Option, Some, None, slice_set}
use Rattle.std.proofs.Math.ListN.{get_or-map}
use Rattle.std.proofs.lemmas.Bool.{cases_eq, cases_lt}
use Rattle.std.proofs.lemmas.List.{ext_get_or, get_or_past, get_or_append_left, get_or-set_same, get_or-set_other, length-append, length-map, length-set, append-nil}
use Rattle.std.proofs.lemmas.List as lists
use Rattle.std.proofs.lemmas.List.FromFn.{get_or-enumerate_from, length-enumerate_from}
use Rattle.std.proofs.lemmas.Slice.Zip.{get_or-zip, length-zip}
use Rattle.std.specs.Prelude.{◌==◌, ◌||◌, replicate, if◌then◌else◌}
use Rattle.std.specs.List.{enumerate_from, zip}
use Rattle.lemmas.specs.Lists.{IsIn}
use Rattle.fact_tables.specs.declared.known.Class.{Class}
use Rattle.fact_tables.specs.declared.known.Known.{Known}
use Rattle.fact_tables.specs.declared.known.Known.TheVariants.{Nothing, Number, Cell, Null, Address, GlobalAddress}
use Rattle.fact_tables.specs.declared.known.Test.{Test}
use Rattle.fact_tables.specs.declared.row.Row.{Row}
use Rattle.fact_tables.specs.declared.sweeps.Change.TheVariants.{Off}
use Rattle.fact_tables.specs.Rows.{lost_class, is_on, off_base, off_test, values_without, tests_without, stale_of, stale_class}
use Rattle.fact_tables.specs.Sheets.{blank, row_at, known_of, class_of, test_of, tests, names, EachRow, off_row, changed, known_nonnull, settled_class, stale_row}
use Rattle.fact_tables.specs.Values.{facts_of_rows, no_values, ended_row}
use Rattle.fact_tables.proofs.Sets.{or_true}
use Rattle.fact_tables.specs.declared.uses.Use.{Use}
use Rattle.fact_tables.specs.Uses.{chain, IsUser, OnlyUsers}
use Rattle.fact_tables.proofs.Says.{same_facts, ended_row_facts, each_same, each_mapped}
use Rattle.fact_tables.proofs.Users.{users_each}

-- ---- blank rows

map_blank : {X : Type 0} (q : Row → X) (count : ℕ) → map q (replicate count blank) ≡ replicate count (q blank)
map_blank q zero = refl
map_blank q (suc count) = ap (λ l. q blank ∷ l) (map_blank q count)

pub blank_facts : (count : ℕ) (rows : List Row) (added : List Class) → rows ≡ replicate count blank → added ≡ [] → facts_of_rows rows added ≡ no_values count
blank_facts count rows added e none = ap (λ l. facts_of_rows l added) e ∙ ap (λ l. facts_of_rows (replicate count blank) l) none
    ∙ same_facts _ _ _ _ _ _ (map_blank known_of count) (append-nil (map class_of (replicate count blank)) ∙ map_blank class_of count) (map_blank test_of count)

-- ---- a safepoint

module _ (rows next : List Row) (added : List Class) (each : EachRow (stale_row (map class_of rows ++ added)) rows next) where
  abbrev classes : List Class
  classes = map class_of rows ++ added

  abbrev values : List Known
  values = map known_of rows

  stale_values : map known_of next ≡ map stale_of (enumerate_from 0 values)
  stale_values = ext_get_or Nothing (map known_of next) (map stale_of (enumerate_from 0 values)) long at where
    same : length (map known_of next) ≡ length values
    same = length-map next known_of ∙ each.0 ∙ sym (length-map rows known_of)

    long : length (map known_of next) ≡ length (map stale_of (enumerate_from 0 values))
    long = same ∙ sym (length-map (enumerate_from 0 values) stale_of ∙ length-enumerate_from 0 values)

    at : (i : ℕ) → i < length (map known_of next) → get_or (map known_of next) i Nothing ≡ get_or (map stale_of (enumerate_from 0 values)) i Nothing
    at i lt =
        let short : i < length values = rw (← same) lt in
        let here : i < length rows = rw (← length-map rows known_of) short in
        let zero_first : 0 + i ≡ i = omega arith in
        let within : i < length (enumerate_from 0 values) = rw (length-enumerate_from 0 values) short in
        get_or-map known_of next i blank ∙ ap known_of (each.1 i here) ∙ ap (λ k. stale_of (i, k)) (sym (get_or-map known_of rows i blank)) ∙ sym (lists.get_or-map stale_of (enumerate_from 0 values) i (0, Nothing) Nothing within ∙ ap stale_of (get_or-enumerate_from 0 values i (0, Nothing) short) ∙ ap (λ n. stale_of (n, get_or values i Nothing)) zero_first)

  own_class : (known : Known) (own : Class) → settled_class (known_nonnull classes known) own known ≡ stale_class classes (own, known)
  own_class (Cell c layout stale) own = refl
  own_class Nothing own = refl
  own_class (Number bits below) own = refl
  own_class Null own = refl
  own_class (Address base words) own = refl
  own_class (GlobalAddress g) own = refl

  stale_classes : map class_of next ≡ map (stale_class classes) (zip classes values)
  stale_classes = ext_get_or lost_class (map class_of next) (map (stale_class classes) (zip classes values)) long at where
    same : length (map class_of next) ≡ length rows
    same = length-map next class_of ∙ each.0

    enough : length rows ≤ length classes
    enough = rw (length-append (map class_of rows) added, length-map rows class_of) (omega arith)

    shorter : length (zip classes values) ≡ length rows
    shorter = let e = length-zip classes values in let f = length-map rows known_of in omega (arith, enough)

    long : length (map class_of next) ≡ length (map (stale_class classes) (zip classes values))
    long = same ∙ sym (length-map (zip classes values) (stale_class classes) ∙ shorter)

    at : (i : ℕ) → i < length (map class_of next) → get_or (map class_of next) i lost_class ≡ get_or (map (stale_class classes) (zip classes values)) i lost_class
    at i lt =
        let here : i < length rows = rw (← same) lt in
        let own : i < length (map class_of rows) = rw (length-map rows class_of) here in
        let first : i < length classes = omega (arith, enough) in
        let second : i < length values = rw (length-map rows known_of) here in
        let within : i < length (zip classes values) = rw shorter here in
        get_or-map class_of next i blank ∙ ap class_of (each.1 i here) ∙ own_class (row_at rows i).known (row_at rows i).class
        ∙ ap (λ o. stale_class classes (o, (row_at rows i).known)) (sym (get_or_append_left (map class_of rows) added lost_class i own ∙ get_or-map class_of rows i blank))
        ∙ ap (λ k. stale_class classes (get_or classes i lost_class, k)) (sym (get_or-map known_of rows i blank))
        ∙ sym (lists.get_or-map (stale_class classes) (zip classes values) i (lost_class, Nothing) lost_class within ∙ ap (stale_class classes) (get_or-zip classes values i (lost_class, Nothing) first second))

  pub stale_facts : (none : List Class) → none ≡ [] → facts_of_rows next none ≡ record (facts_of_rows rows added) { values = map stale_of (enumerate_from 0 values); classes = map (stale_class classes) (zip classes values) }
  stale_facts none e = same_facts _ _ _ _ _ _ stale_values (ap (λ l. map class_of next ++ l) e ∙ append-nil (map class_of next) ∙ stale_classes) (each_same test_of (stale_row classes) rows next each (λ u row. refl))

  on_stale : (u v : ℕ) (known : Known) → is_on v (stale_of (u, known)) ≡ is_on v known
  on_stale u v (Cell c layout stale) = refl
  on_stale u v Nothing = refl
  on_stale u v (Number bits below) = refl
  on_stale u v Null = refl
  on_stale u v (Address base words) = refl
  on_stale u v (GlobalAddress g) = refl

  pub stale_only : (uses : List Use) → OnlyUsers uses rows → OnlyUsers uses next
  stale_only uses = users_each uses (stale_row classes) rows next each (λ u v row. ap (λ b. b || tests v row.test) (on_stale u v row.known)) (λ u row. refl)

-- ---- what names a value ends

off_base_less : (v w : ℕ) (known : Known) → is_on w (off_base v known) ≡ true → (is_on w known ≡ true) × (v ≡ w → ⊥)
off_base_less v w known = pick (is_on v known) refl where
  pick : (b : Bool) → is_on v known ≡ b → is_on w (off_base v known) ≡ true → (is_on w known ≡ true) × (v ≡ w → ⊥)
  pick true e h = let none = ap (λ b. is_on w (if b then Nothing else known)) e in absurd cc
  pick false e h = let same = ap (λ b. is_on w (if b then Nothing else known)) e in (sym same ∙ h, λ x. let on = subst (λ y. is_on y known ≡ true) (sym x) (sym same ∙ h) in absurd cc)

off_test_less : (v w : ℕ) (test : Option Test) → tests w (off_test v test) ≡ true → (tests w test ≡ true) × (v ≡ w → ⊥)
off_test_less v w None h = absurd cc
off_test_less v w (Some test) h = pick (test.tested == v) refl h where
  pick : (b : Bool) → (test.tested == v) ≡ b → tests w (off_test v (Some test)) ≡ true → (tests w (Some test) ≡ true) × (v ≡ w → ⊥)
  pick true e h = let none = ap (λ b. tests w (if b then None else Some test)) e in absurd cc
  pick false e h = let same = ap (λ b. tests w (if b then None else Some test)) e in (sym same ∙ h, λ x. let on = subst (λ y. (test.tested == y) ≡ true) (sym x) (sym same ∙ h) in absurd cc)

-- a row names less
pub off_less : (v w : ℕ) (row : Row) → names w (off_row v row) ≡ true → (names w row ≡ true) × (v ≡ w → ⊥)
off_less v w row = pick (is_on w (off_base v row.known)) refl where
  pick : (b : Bool) → is_on w (off_base v row.known) ≡ b → (is_on w (off_base v row.known) || tests w (off_test v row.test)) ≡ true → (names w row ≡ true) × (v ≡ w → ⊥)
  pick true e h = let less = off_base_less v w row.known e in (rw (less.0) refl, less.1)
  pick false e h = let less = off_test_less v w row.test (sym (ap (λ b. b || tests w (off_test v row.test)) e) ∙ h) in (rw (less.0) (or_true (is_on w row.known)), less.1)

module _ (v : ℕ) (rows next : List Row) (each : EachRow (changed (Off v)) rows next) where
  pub ended_facts : (added : List Class) → facts_of_rows (slice_set next v (ended_row (row_at next v))) added ≡ record (facts_of_rows rows added) { values = values_without v (map known_of rows); tests = tests_without v (map test_of rows) }
  ended_facts added = ended_row_facts next added v
      ∙ same_facts _ _ _ _ _ _ (ap (λ l. slice_set l v Nothing) (each_mapped known_of (changed (Off v)) rows next each (off_base v) (λ u row. refl))) (ap (λ l. l ++ added) (each_same class_of (changed (Off v)) rows next each (λ u row. refl))) (ap (λ l. slice_set l v None) (each_mapped test_of (changed (Off v)) rows next each (off_test v) (λ u row. refl)))

  pub ended_only : (uses : List Use) → OnlyUsers uses rows → OnlyUsers uses (slice_set next v (ended_row (row_at next v)))
  ended_only uses only u w e lt = pick (cases_eq v u) where
    last : List Row
    last = slice_set next v (ended_row (row_at next v))

    long : w < length rows
    long = rw (← each.0, ← length-set next v (ended_row (row_at next v))) lt

    none : (row : Row) → names w (ended_row row) ≡ true → ⊥
    none row h = absurd cc

    kept : (v ≡ w → ⊥) → IsUser uses rows u w → IsUser uses last u w
    kept ne h = subst (λ (used : Option ℕ). IsIn u (chain (length uses) uses used)) (sym (ap (λ r. r.used) (get_or-set_other next v w (ended_row (row_at next v)) blank (λ x. ne (sym x)) ∙ each.1 w long))) h

    other : (v ≡ u → ⊥) → (u < length rows) ⊎ (length rows ≤ u) → IsUser uses last u w
    other ne (inl at) = let less = off_less v w (row_at rows u) (ap (names w) (sym (get_or-set_other next v u (ended_row (row_at next v)) blank (λ x. ne (sym x)) ∙ each.1 u at)) ∙ e) in kept less.1 (only u w less.0 long)
    other ne (inr past) = let empty = ap (names w) (get_or_past last u blank (rw (length-set next v (ended_row (row_at next v)), each.0) past)) in absurd cc

    own : (v < length next) ⊎ (length next ≤ v) → names w (row_at last v) ≡ true → ⊥
    own (inl at) h = none (row_at next v) (sym (ap (names w) (get_or-set_same next v (ended_row (row_at next v)) blank at)) ∙ h)
    own (inr past) h = let empty = ap (names w) (get_or_past last v blank (rw length-set past)) in absurd cc

    pick : (v ≡ u) ⊎ (v ≡ u → ⊥) → IsUser uses last u w
    pick (inl same) = absurd (own (cases_lt v (length next)) (subst (λ x. names w (row_at last x) ≡ true) (sym same) e))
    pick (inr ne) = other ne (cases_lt u (length rows))
