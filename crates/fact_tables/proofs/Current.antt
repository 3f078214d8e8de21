-- Which rows a safepoint changes.
use Rattle.std.proofs.Common.{◌≡◌, ◌<◌, ◌⊎◌, ℕ, length, List, [], refl, sym, ap, subst, inl, inr, ◌∙◌, true, false, Bool}
use Rattle.std.specs.Prelude.{not, ◌&&◌, ◌==◌, replicate, if◌then◌else◌}
use Rattle.lemmas.specs.Bools.{not_true}
use Rattle.lemmas.specs.Numbers.{test_true, test_same}
use Rattle.lemmas.specs.Lists.{IsIn}
use Rattle.fact_tables.specs.EachListed.{each_listed}
use Rattle.fact_tables.proofs.EachListed.{length_each, each_at}
use Rattle.fact_tables.specs.declared.known.Class.{Class}
use Rattle.fact_tables.specs.declared.known.Known.{Known}
use Rattle.fact_tables.specs.declared.known.Known.TheVariants.{Nothing, Number, Cell, Null, Address, GlobalAddress}
use Rattle.fact_tables.specs.declared.row.Row.{Row}
use Rattle.fact_tables.specs.Rows.{class_at, off_base, stale_of}
use Rattle.fact_tables.specs.Sheets.{blank, row_at, OnlyMarked, OnlyCurrent, EachRow, is_settled_as, is_settled, known_nonnull, settled_class, off_row, keep_row, settle_row, stale_row}
use Rattle.fact_tables.proofs.Listed.{row_after}
use Rattle.fact_tables.proofs.Sheets.{blank_at}

-- ---- rows that a safepoint leaves

pub settled_parts : (same stale fresh nonnull aside : Bool) → (same && stale && not fresh && (if nonnull then aside else not aside)) ≡ true → (same ≡ true) × (stale ≡ true) × (fresh ≡ false) × (aside ≡ nonnull)
settled_parts true true false true true e = (refl, refl, refl, refl)
settled_parts true true false false false e = (refl, refl, refl, refl)
settled_parts same stale fresh nonnull aside e = absurd cc

abbrev the_class : Bool → Bool → Class
the_class nonnull fresh = record { nonnull = nonnull; fresh = fresh }

module _ (u : ℕ) (aside : Bool) (own : Class) where
  recorded : (classes : List Class) (known : Known) → class_at classes u ≡ own → is_settled_as u aside own known ≡ true → known_nonnull classes known ≡ aside
  recorded classes (Cell c layout stale) e h = let parts = settled_parts (c == u) stale own.fresh own.nonnull aside h in ap (λ x. (class_at classes x).nonnull) (test_true c u parts.0) ∙ ap (λ (class : Class). class.nonnull) e ∙ sym parts.3
  recorded classes Nothing e h = sym (not_true aside h)
  recorded classes (Number bits below) e h = sym (not_true aside h)
  recorded classes Null e h = sym (not_true aside h)
  recorded classes (Address base words) e h = sym (not_true aside h)
  recorded classes (GlobalAddress g) e h = sym (not_true aside h)

  stale_known : (known : Known) → is_settled_as u aside own known ≡ true → stale_of (u, known) ≡ known
  stale_known (Cell c layout stale) h = let parts = settled_parts (c == u) stale own.fresh own.nonnull aside h in ap (λ x. Cell x layout true) (sym (test_true c u parts.0)) ∙ ap (λ b. Cell c layout b) (sym parts.1)
  stale_known Nothing h = refl
  stale_known (Number bits below) h = refl
  stale_known Null h = refl
  stale_known (Address base words) h = refl
  stale_known (GlobalAddress g) h = refl

  own_settled : (known : Known) → is_settled_as u aside own known ≡ true → settled_class aside own known ≡ own
  own_settled (Cell c layout stale) h = let parts = settled_parts (c == u) stale own.fresh own.nonnull aside h in ap (λ b. the_class b false) parts.3 ∙ ap (λ b. the_class own.nonnull b) (sym parts.2)
  own_settled Nothing h = refl
  own_settled (Number bits below) h = refl
  own_settled Null h = refl
  own_settled (Address base words) h = refl
  own_settled (GlobalAddress g) h = refl

keep_settled : (classes : List Class) (u : ℕ) (row : Row) → class_at classes u ≡ row.class → is_settled u row ≡ true → keep_row classes u row ≡ row
keep_settled classes u row e h = ap (λ (b : Bool). record row { aside = b }) (recorded u row.aside row.class classes row.known e h)

settle_settled : (u : ℕ) (row : Row) → is_settled u row ≡ true → settle_row u row ≡ row
settle_settled u row h = ap (λ (k : Known). record row { known = k; class = settled_class row.aside row.class row.known }) (stale_known u row.aside row.class row.known h) ∙ ap (λ (c : Class). record row { class = c }) (own_settled u row.aside row.class row.known h)

as_recorded : (b : Bool) → (if b then b else not b) ≡ true
as_recorded true = refl
as_recorded false = refl

settled_as : (classes : List Class) (u : ℕ) (own : Class) (known : Known) → is_settled_as u (known_nonnull classes known) (settled_class (known_nonnull classes known) own known) (stale_of (u, known)) ≡ true
settled_as classes u own (Cell c layout stale) = let b = (class_at classes c).nonnull in ap (λ same. same && true && not false && (if b then b else not b)) (test_same u) ∙ as_recorded b
settled_as classes u own Nothing = refl
settled_as classes u own (Number bits below) = refl
settled_as classes u own Null = refl
settled_as classes u own (Address base words) = refl
settled_as classes u own (GlobalAddress g) = refl

-- a safepoint leaves what it made
settled_after : (classes : List Class) (u : ℕ) (row : Row) → is_settled u (stale_row classes u row) ≡ true
settled_after classes u row = settled_as classes u row.class row.known

-- a row whose class is fresh no more
pub stale_settled : (u : ℕ) (aside : Bool) (own : Class) (known : Known) → is_settled_as u aside own known ≡ true → is_settled_as u aside (record own { fresh = false }) known ≡ true
stale_settled u aside own (Cell c layout stale) h = let parts = settled_parts (c == u) stale own.fresh own.nonnull aside h in ap (λ b. is_settled_as u aside (the_class own.nonnull b) (Cell c layout stale)) (sym parts.2) ∙ h
stale_settled u aside own Nothing h = h
stale_settled u aside own (Number bits below) h = h
stale_settled u aside own Null h = h
stale_settled u aside own (Address base words) h = h
stale_settled u aside own (GlobalAddress g) h = h

-- a row that names a value no more
pub off_settled : (v u : ℕ) (row : Row) → is_settled u row ≡ true → is_settled u (off_row v row) ≡ true
off_settled v u row = by row.known where
  by : (known : Known) → is_settled_as u row.aside row.class known ≡ true → is_settled_as u row.aside row.class (off_base v known) ≡ true
  by (Address base words) h = pick (base == v) where
    pick : (b : Bool) → is_settled_as u row.aside row.class (if b then Nothing else Address base words) ≡ true
    pick true = h
    pick false = h
  by (Cell c layout stale) h = h
  by Nothing h = h
  by (Number bits below) h = h
  by Null h = h
  by (GlobalAddress g) h = h

-- ---- all rows

module _ (change : ℕ → Row → Row) (leaves : (v : ℕ) → change v blank ≡ blank) (before after : List Row) (each : EachRow change before after) where
  at : (v : ℕ) → row_at after v ≡ change v (row_at before v)
  at = row_after change leaves before after each

  pub marked_after : (marked : List ℕ) → OnlyMarked marked before → OnlyMarked marked after
  marked_after marked only v = elim (only v) [ inl one ↦ inl one | inr e ↦ inr (at v ∙ ap (change v) e ∙ leaves v) ]

  -- no row, once all are as a safepoint leaves them
  pub none_after : ((v : ℕ) (row : Row) → is_settled v (change v row) ≡ true) → OnlyCurrent [] after
  none_after settles v = inr (subst (λ (row : Row). is_settled v row ≡ true) (sym (at v)) (settles v (row_at before v)))

-- a change that leaves the rows that are not listed is one of all rows
pub all_listed : (change : ℕ → Row → Row) → ((v : ℕ) (row : Row) → change v (change v row) ≡ change v row) → (listed : List ℕ) (rows : List Row) → ((v : ℕ) → v < length rows → IsIn v listed ⊎ (change v (row_at rows v) ≡ row_at rows v)) → EachRow change rows (each_listed blank change listed rows)
all_listed change twice listed rows seen = (length_each blank change listed rows, each_at blank change twice listed rows seen)

-- blank rows stay blank at a safepoint
pub blank_current : (current : List ℕ) (count : ℕ) (rows : List Row) → rows ≡ replicate count blank → OnlyCurrent current rows
blank_current current count rows e v = inr (ap (is_settled v) (ap (λ l. row_at l v) e ∙ blank_at count v))

-- ---- a safepoint

module _ (classes : List Class) (current : List ℕ) (rows : List Row) (own : (v : ℕ) → v < length rows → class_at classes v ≡ (row_at rows v).class) (only : OnlyCurrent current rows) (twice : (v : ℕ) (row : Row) → settle_row v (settle_row v row) ≡ settle_row v row) where
  abbrev between : List Row
  between = each_listed blank (keep_row classes) current rows

  kept : EachRow (keep_row classes) rows between
  kept = all_listed (keep_row classes) (λ v row. refl) current rows (λ v lt. elim (only v) [ inl one ↦ inl one | inr e ↦ inr (keep_settled classes v (row_at rows v) (own v lt) e) ])

  settled : EachRow settle_row between (each_listed blank settle_row current between)
  settled = all_listed settle_row twice current between (λ v lt. elim (only v) [ inl one ↦ inl one | inr e ↦ inr (leave v (rw (← kept.0) lt) e) ]) where
    leave : (v : ℕ) → v < length rows → is_settled v (row_at rows v) ≡ true → settle_row v (row_at between v) ≡ row_at between v
    leave v lt e = let same = kept.1 v lt ∙ keep_settled classes v (row_at rows v) (own v lt) e in ap (settle_row v) same ∙ settle_settled v (row_at rows v) e ∙ sym same

  -- a safepoint that changes the rows that are listed changes all rows
  pub stale_all : EachRow (stale_row classes) rows (each_listed blank settle_row current between)
  stale_all = (settled.0 ∙ kept.0, λ v lt. settled.1 v (rw kept.0 lt) ∙ ap (settle_row v) (kept.1 v lt))

  pub stale_marked : (marked : List ℕ) → OnlyMarked marked rows → OnlyMarked marked (each_listed blank settle_row current between)
  stale_marked = marked_after (stale_row classes) (λ v. refl) rows (each_listed blank settle_row current between) stale_all

  pub stale_none : OnlyCurrent [] (each_listed blank settle_row current between)
  stale_none = none_after (stale_row classes) (λ v. refl) rows (each_listed blank settle_row current between) stale_all (settled_after classes)
