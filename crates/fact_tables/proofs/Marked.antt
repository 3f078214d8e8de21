-- What changes in all rows that are marked, and what is asked of them.
use Rattle.std.proofs.Common.{◌≡◌, ◌<◌, ◌⊎◌, ℕ, length, zero, suc, List, [], ◌∷◌, get_or, map, refl, sym, ap, subst, inl, inr, ◌∙◌, add-one, drop-cons, drop, ◌+◌, ◌++◌, slice_set, true, false, Bool, Option, Some, None}
use Rattle.std.proofs.Math.ListN.{get_or-map}
use Rattle.std.proofs.Math.Seq.{map-set_same}
use Rattle.std.specs.Prelude.{◌==◌, ◌||◌, ◌&&◌}
use Rattle.std.specs.List.{list_any, list_all, zip}
use Rattle.lemmas.specs.Lists.{IsIn}
use Rattle.fact_tables.specs.EachListed.{each_listed}
use Rattle.fact_tables.proofs.EachListed.{length_each, each_at}
use Rattle.fact_tables.specs.declared.known.Class.{Class}
use Rattle.fact_tables.specs.declared.known.Known.{Known}
use Rattle.fact_tables.specs.declared.known.Known.TheVariants.{Nothing, Number, Cell, Null, Address, GlobalAddress}
use Rattle.fact_tables.specs.declared.known.Test.{Test}
use Rattle.fact_tables.specs.declared.row.Row.{Row}
use Rattle.fact_tables.specs.declared.sweeps.Change.{Change}
use Rattle.fact_tables.specs.declared.sweeps.Change.TheVariants.{Off, Settle}
use Rattle.fact_tables.specs.Rows.{is_of, is_on, off_base, off_test}
use Rattle.fact_tables.specs.Covers.{covers_value, value_off, values_there, values_back}
use Rattle.fact_tables.specs.Sheets.{blank, row_at, known_of, class_of, OnlyMarked, EachRow, off_row, keep_row, settle_row, changed, row_is_of, covers_row}
use Rattle.fact_tables.proofs.OwnersOf.{OnlyMembers}
use Rattle.fact_tables.proofs.Sets.{found}

module _ (change : ℕ → Row → Row) (twice : (v : ℕ) (row : Row) → change v (change v row) ≡ change v row) (leaves : (v : ℕ) → change v blank ≡ blank) where
  -- a change that leaves blank rows is one of all rows
  pub each_all : (marked : List ℕ) (rows : List Row) → OnlyMarked marked rows → EachRow change rows (each_listed blank change marked rows)
  each_all marked rows only = (length_each blank change marked rows, each_at blank change twice marked rows seen) where
    seen : (v : ℕ) → v < length rows → IsIn v marked ⊎ (change v (row_at rows v) ≡ row_at rows v)
    seen v lt = elim (only v) [ inl one ↦ inl one | inr e ↦ inr (ap (change v) e ∙ leaves v ∙ sym e) ]

-- ---- each of these changes

off_base_twice : (v : ℕ) (known : Known) → off_base v (off_base v known) ≡ off_base v known
off_base_twice v known = pick (is_on v known) refl where
  pick : (b : Bool) → is_on v known ≡ b → off_base v (off_base v known) ≡ off_base v known
  pick true e = rw e refl
  pick false e = rw (e, e) refl

off_test_twice : (v : ℕ) (test : Option Test) → off_test v (off_test v test) ≡ off_test v test
off_test_twice v None = refl
off_test_twice v (Some test) = pick (test.tested == v) refl where
  pick : (b : Bool) → (test.tested == v) ≡ b → off_test v (off_test v (Some test)) ≡ off_test v (Some test)
  pick true e = rw e refl
  pick false e = rw (e, e) refl

off_twice : (v : ℕ) (row : Row) → off_row v (off_row v row) ≡ off_row v row
off_twice v row = rw (off_base_twice v row.known, off_test_twice v row.test) refl

pub settle_twice : (u : ℕ) (row : Row) → settle_row u (settle_row u row) ≡ settle_row u row
settle_twice u row = pick row.known refl where
  pick : (known : Known) → row.known ≡ known → settle_row u (settle_row u (record row { known = known })) ≡ settle_row u (record row { known = known })
  pick (Cell c layout stale) e = refl
  pick Nothing e = refl
  pick (Number bits below) e = refl
  pick Null e = refl
  pick (Address base words) e = refl
  pick (GlobalAddress g) e = refl

pub changed_twice : (change : Change) (u : ℕ) (row : Row) → changed change u (changed change u row) ≡ changed change u row
changed_twice (Off v) u row = off_twice v row
changed_twice Settle u row = settle_twice u row

-- one class more is recorded, and the classes are as they were
pub keep_more : (added : List Class) (first rows : List Row) (marked : List ℕ) (i : ℕ) → i < length marked
    → each_listed blank (keep_row (map class_of first ++ added)) marked first ≡ each_listed blank (keep_row (map class_of first ++ added)) (drop i marked) rows → map class_of rows ≡ map class_of first → (next : List Row)
    → next ≡ slice_set rows (get_or marked i 0) (keep_row (map class_of rows ++ added) (get_or marked i 0) (row_at rows (get_or marked i 0)))
    → (each_listed blank (keep_row (map class_of first ++ added)) marked first ≡ each_listed blank (keep_row (map class_of first ++ added)) (drop (i + 1) marked) next) × (map class_of next ≡ map class_of first)
keep_more added first rows marked i lt changed same next is = (changed ∙ ap (λ us. each_listed blank g us rows) (drop-cons marked i 0 lt) ∙ ap (λ us. each_listed blank g us (step (map class_of first))) (ap (λ n. drop n marked) (sym (add-one i))) ∙ ap (each_listed blank g (drop (i + 1) marked)) (ap step (sym same) ∙ sym is), ap (map class_of) is ∙ map-set_same class_of rows u (keep_row (map class_of rows ++ added) u (row_at rows u)) blank refl ∙ same) where
  u : ℕ
  u = get_or marked i 0

  g : ℕ → Row → Row
  g = keep_row (map class_of first ++ added)

  step : List Class → List Row
  step classes = slice_set rows u (keep_row (classes ++ added) u (row_at rows u))

-- ---- whether some row is of a class

module _ (c : ℕ) (rows : List Row) where
  any_there : (marked : List ℕ) → list_any (row_is_of c rows) marked ≡ true → list_any (is_of c) (map known_of rows) ≡ true
  any_there [] e = absurd cc
  any_there (u ∷ marked) e = pick (any_there marked) (row_is_of c rows u) refl e where
    pick : (list_any (row_is_of c rows) marked ≡ true → list_any (is_of c) (map known_of rows) ≡ true) → (b : Bool) → row_is_of c rows u ≡ b → (b || list_any (row_is_of c rows) marked) ≡ true → list_any (is_of c) (map known_of rows) ≡ true
    pick more true is e = found (is_of c) (map known_of rows) u Nothing refl (ap (is_of c) (get_or-map known_of rows u blank) ∙ is)
    pick more false is e = more e

  none_there : (marked : List ℕ) → list_any (row_is_of c rows) marked ≡ false → (u : ℕ) → IsIn u marked → row_is_of c rows u ≡ false
  none_there [] e u one = absurd one
  none_there (w ∷ marked) e u one = pick (λ i. none_there marked i u) (row_is_of c rows w) refl e one where
    pick : (list_any (row_is_of c rows) marked ≡ false → IsIn u marked → row_is_of c rows u ≡ false) → (b : Bool) → row_is_of c rows w ≡ b → (b || list_any (row_is_of c rows) marked) ≡ false → IsIn u (w ∷ marked) → row_is_of c rows u ≡ false
    pick more true is e one = absurd cc
    pick more false is e (inl same) = subst (λ x. row_is_of c rows x ≡ false) (sym same) is
    pick more false is e (inr one) = more e one

none_found : (c : ℕ) (rows : List Row) → ((u : ℕ) → is_of c (row_at rows u).known ≡ false) → list_any (is_of c) (map known_of rows) ≡ false
none_found c [] h = refl
none_found c (row ∷ rows) h = rw (h zero) (none_found c rows (λ u. h (suc u)))

pub any_listed : (c : ℕ) (listed : List ℕ) (rows : List Row) → OnlyMembers c listed rows → list_any (row_is_of c rows) listed ≡ list_any (is_of c) (map known_of rows)
any_listed c listed rows only = pick (list_any (row_is_of c rows) listed) refl where
  pick : (b : Bool) → list_any (row_is_of c rows) listed ≡ b → list_any (row_is_of c rows) listed ≡ list_any (is_of c) (map known_of rows)
  pick true e = e ∙ sym (any_there c rows listed e)
  pick false e = e ∙ sym (none_found c rows (λ u. elim (only u) [ inl one ↦ none_there c rows listed e u one | inr off ↦ off ]))

-- ---- whether all rows of a class are listed there as of another

module _ (c d : ℕ) (here there : List Row) where
  abbrev Covers : ℕ → Type 0
  Covers u = covers_row c d here there u ≡ true

  all_there : (marked : List ℕ) → list_all (covers_row c d here there) marked ≡ true → (u : ℕ) → IsIn u marked → Covers u
  all_there [] e u one = absurd one
  all_there (w ∷ marked) e u one = pick (λ i. all_there marked i u) (covers_row c d here there w) refl e one where
    pick : (list_all (covers_row c d here there) marked ≡ true → IsIn u marked → Covers u) → (b : Bool) → covers_row c d here there w ≡ b → (b && list_all (covers_row c d here there) marked) ≡ true → IsIn u (w ∷ marked) → Covers u
    pick more true is e (inl same) = subst Covers (sym same) is
    pick more true is e (inr one) = more e one
    pick more false is e one = absurd cc

  all_back : (marked : List ℕ) → ((u : ℕ) → Covers u) → list_all (covers_row c d here there) marked ≡ true
  all_back [] h = refl
  all_back (u ∷ marked) h = rw (h u) (all_back marked h)

  pairs : (u : ℕ) → covers_value c d (get_or (map known_of here) u Nothing, get_or (map known_of there) u Nothing) ≡ covers_row c d here there u
  pairs u = ap (λ k. covers_value c d (k, get_or (map known_of there) u Nothing)) (get_or-map known_of here u blank) ∙ ap (λ k. covers_value c d ((row_at here u).known, k)) (get_or-map known_of there u blank)

  covers_by : (marked : List ℕ) → ((u : ℕ) → IsIn u marked ⊎ Covers u) → list_all (covers_row c d here there) marked ≡ list_all (covers_value c d) (zip (map known_of here) (map known_of there))
  covers_by marked only = pick (list_all (covers_row c d here there) marked) refl (list_all (covers_value c d) (zip (map known_of here) (map known_of there))) refl where
    every : list_all (covers_row c d here there) marked ≡ true → (u : ℕ) → Covers u
    every e u = elim (only u) [ inl one ↦ all_there marked e u one | inr holds ↦ holds ]

    pick : (a : Bool) → list_all (covers_row c d here there) marked ≡ a → (b : Bool) → list_all (covers_value c d) (zip (map known_of here) (map known_of there)) ≡ b → list_all (covers_row c d here there) marked ≡ list_all (covers_value c d) (zip (map known_of here) (map known_of there))
    pick true e b i = e ∙ sym (values_back c d (map known_of here) (map known_of there) (λ u. pairs u ∙ every e u))
    pick false e false i = e ∙ sym i
    pick false e true i = let all = all_back marked (λ u. sym (pairs u) ∙ values_there c d (map known_of here) (map known_of there) i u) in absurd cc

  -- the rows that may be of the class here decide, and those that are marked there
  pub covers_here : (listed : List ℕ) → OnlyMembers c listed here → list_all (covers_row c d here there) listed ≡ list_all (covers_value c d) (zip (map known_of here) (map known_of there))
  covers_here listed only = covers_by listed (λ u. elim (only u) [ inl one ↦ inl one | inr off ↦ inr (value_off c d (row_at here u).known (row_at there u).known off) ])

  pub covers_there : (marked : List ℕ) → OnlyMarked marked there → list_all (covers_row c d here there) marked ≡ list_all (covers_value c d) (zip (map known_of here) (map known_of there))
  covers_there marked only = covers_by marked (λ u. elim (only u) [ inl one ↦ inl one | inr empty ↦ inr (ap (λ row. covers_value c d ((row_at here u).known, row.known)) empty) ])

-- the same question of the same rows
pub same_question : (c d : ℕ) (here rows there others : List Row) (marked us : List ℕ) → here ≡ rows → marked ≡ us → there ≡ others → list_all (covers_row c d here there) marked ≡ list_all (covers_row c d rows others) us
same_question c d here rows there others marked us e f g = ap (λ l. list_all (covers_row c d l there) marked) e ∙ ap (λ l. list_all (covers_row c d rows l) marked) g ∙ ap (list_all (covers_row c d rows others)) f
