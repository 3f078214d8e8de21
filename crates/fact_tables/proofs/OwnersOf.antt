-- The values that own a class, and those that are of a class which they do not own.
use Rattle.std.proofs.Common.{◌≡◌, ◌<◌, ◌≤◌, ◌⊎◌, ℕ, zero, suc, length, List, [], ◌∷◌, ◌++◌, get_or, arith, refl, sym, ap, subst, inl, inr, ◌∙◌, true, false, Bool, Option, Some, None, slice_set}
use Rattle.std.proofs.lemmas.Bool.{cases_lt}
use Rattle.std.proofs.lemmas.List.{get_or_past, length-set}
use Rattle.std.specs.Prelude.{◌==◌, ◌-◌, ◌||◌, not, replicate, slice_get, nat_lt, if◌then◌else◌}
use Rattle.lemmas.specs.Bools.{yes_or_no, or_parts, or_first}
use Rattle.lemmas.specs.Numbers.{test_true, test_same, lt_yes, lt_false}
use Rattle.lemmas.specs.Lists.{in_first, IsIn}
use Rattle.fact_tables.specs.declared.owners.Owners.{Owners}
use Rattle.fact_tables.specs.declared.known.Class.{Class}
use Rattle.fact_tables.specs.declared.known.Known.{Known}
use Rattle.fact_tables.specs.declared.known.Known.TheVariants.{Nothing, Number, Cell, Null, Address, GlobalAddress}
use Rattle.fact_tables.specs.declared.row.Row.{Row}
use Rattle.fact_tables.specs.Rows.{is_of, off_base, stale_of}
use Rattle.fact_tables.specs.Owners.{owners_of, is_owner, owns_class_of, owns_class, ListsNonOwners, with_second, no_owners, with_owner, members}
use Rattle.fact_tables.specs.Sheets.{blank, row_at, EachRow, off_row, stale_row, row_is_of}
use Rattle.fact_tables.proofs.Listed.{Unless, put_unless, change_unless}
use Rattle.fact_tables.proofs.Sheets.{blank_at}

-- as many rows as before
pub as_many : (class_owners : List Owners) (non_owners : List ℕ) (before after : List Row) → length after ≡ length before → Unless (owns_class (length before) class_owners) non_owners after → ListsNonOwners non_owners class_owners after
as_many class_owners non_owners before after e only = subst (λ n. Unless (owns_class n class_owners) non_owners after) (sym e) only

-- the list for the same rows
pub non_owners_of : (us non_owners : List ℕ) (ws class_owners : List Owners) (next rows : List Row) → us ≡ non_owners → ws ≡ class_owners → next ≡ rows → ListsNonOwners non_owners class_owners rows → ListsNonOwners us ws next
non_owners_of us non_owners ws class_owners next rows e f g only = subst (λ l. ListsNonOwners us ws l) (sym g) (subst (λ l. ListsNonOwners us l rows) (sym f) (subst (λ l. ListsNonOwners l class_owners rows) (sym e) only))

-- ---- a row that is written

module _ (v : ℕ) (row : Row) (rows : List Row) (class_owners : List Owners) (non_owners : List ℕ) (only : ListsNonOwners non_owners class_owners rows) where
  pub put_non_owners : IsIn v non_owners ⊎ (owns_class (length rows) class_owners v row ≡ true) → ListsNonOwners non_owners class_owners (slice_set rows v row)
  put_non_owners recorded = as_many class_owners non_owners rows (slice_set rows v row) (length-set rows v row) (put_unless (owns_class (length rows) class_owners) (λ u. refl) v row non_owners rows only recorded)

  -- whose value is known to be what it was, or of which nothing is known
  pub change_non_owners : (row.known ≡ (row_at rows v).known) ⊎ (row.known ≡ Nothing) → ListsNonOwners non_owners class_owners (slice_set rows v row)
  change_non_owners known = as_many class_owners non_owners rows (slice_set rows v row) (length-set rows v row) (change_unless (owns_class (length rows) class_owners) (λ u. refl) v row non_owners rows only (keeps known)) where
    keeps : (row.known ≡ (row_at rows v).known) ⊎ (row.known ≡ Nothing) → owns_class (length rows) class_owners v (row_at rows v) ≡ true → owns_class (length rows) class_owners v row ≡ true
    keeps (inl e) h = ap (owns_class_of (length rows) class_owners v) e ∙ h
    keeps (inr e) h = ap (owns_class_of (length rows) class_owners v) e

-- ---- all rows

-- a row that names a value no more
pub off_owns : (count : ℕ) (class_owners : List Owners) (v u : ℕ) (row : Row) → owns_class count class_owners u row ≡ true → owns_class count class_owners u (off_row v row) ≡ true
off_owns count class_owners v u row = by row.known where
  by : (known : Known) → owns_class_of count class_owners u known ≡ true → owns_class_of count class_owners u (off_base v known) ≡ true
  by (Address base words) h = pick (base == v) where
    pick : (b : Bool) → owns_class_of count class_owners u (if b then Nothing else Address base words) ≡ true
    pick true = refl
    pick false = refl
  by (Cell c layout stale) h = h
  by Nothing h = refl
  by (Number bits below) h = refl
  by Null h = refl
  by (GlobalAddress g) h = refl

-- blank rows are of no class
pub blank_non_owners : (non_owners : List ℕ) (class_owners : List Owners) (count : ℕ) (rows : List Row) → rows ≡ replicate count blank → ListsNonOwners non_owners class_owners rows
blank_non_owners non_owners class_owners count rows e v = inr (ap (λ (row : Row). owns_class (length rows) class_owners v row) (ap (λ l. row_at l v) e ∙ blank_at count v))

-- a stale reference is of the class that its value has for itself
stale_owns : (count : ℕ) (class_owners : List Owners) (u : ℕ) (known : Known) → u < count → owns_class_of count class_owners u (stale_of (u, known)) ≡ true
stale_owns count class_owners u (Cell c layout stale) lt = rw (lt_yes u count lt) (or_first (u == u) (u == u) (test_same u))
stale_owns count class_owners u Nothing lt = refl
stale_owns count class_owners u (Number bits below) lt = refl
stale_owns count class_owners u Null lt = refl
stale_owns count class_owners u (Address base words) lt = refl
stale_owns count class_owners u (GlobalAddress g) lt = refl

pub stale_non_owners : (classes : List Class) (non_owners : List ℕ) (class_owners : List Owners) (before after : List Row) → EachRow (stale_row classes) before after → ListsNonOwners non_owners class_owners after
stale_non_owners classes non_owners class_owners before after each v = inr (elim (cases_lt v (length before)) [
  | inl lt ↦ subst (λ (row : Row). owns_class (length after) class_owners v row ≡ true) (sym (each.1 v lt)) (stale_owns (length after) class_owners v (row_at before v).known (rw each.0 lt))
  | inr past ↦ subst (λ (row : Row). owns_class (length after) class_owners v row ≡ true) (sym (get_or_past after v blank (rw each.0 past))) refl
])

-- ---- the owners change

-- what holds of all owners holds where those of one class change
seat : (good : Option Owners → Bool) (f : Owners → Owners) (class_owners : List Owners) (i j : ℕ) → good (slice_get class_owners j) ≡ true → (i ≡ j → (owners : Owners) → good (Some owners) ≡ true → good (Some (f owners)) ≡ true) → good (slice_get (slice_set class_owners i (f (get_or class_owners i no_owners))) j) ≡ true
seat good f [] i j e keeps = e
seat good f (owners ∷ class_owners) zero zero e keeps = keeps refl owners e
seat good f (owners ∷ class_owners) zero (suc j) e keeps = e
seat good f (owners ∷ class_owners) (suc i) zero e keeps = e
seat good f (owners ∷ class_owners) (suc i) (suc j) e keeps = seat good f class_owners i j e (λ same. keeps (ap suc same))

second_keeps : (rows : List Row) (at c u : ℕ) (owners : Owners) → row_is_of c rows u ≡ true → is_owner u (Some owners) ≡ true → is_owner u (Some (with_second rows at c owners)) ≡ true
second_keeps rows at c u owners of e = pick (owners.first == owners.second) refl (row_is_of c rows owners.second) refl (or_parts (owners.first == u) (owners.second == u) e) where
  pick : (a : Bool) → (owners.first == owners.second) ≡ a → (b : Bool) → row_is_of c rows owners.second ≡ b → ((owners.first == u) ≡ true) ⊎ ((owners.second == u) ≡ true) → is_owner u (Some (if a || not b then record owners { second = at } else owners)) ≡ true
  pick true x b y (inl one) = or_first (owners.first == u) (at == u) one
  pick true x b y (inr second) = or_first (owners.first == u) (at == u) (subst (λ z. (z == u) ≡ true) (sym (test_true owners.first owners.second x)) second)
  pick false x true y is = e
  pick false x false y (inl one) = or_first (owners.first == u) (at == u) one
  pick false x false y (inr second) = absurd (let here = subst (λ z. row_is_of c rows z ≡ false) (test_true owners.second u second) y in cc)

pub with_owner_non_owners : (at c : ℕ) (non_owners : List ℕ) (class_owners : List Owners) (rows : List Row) → ListsNonOwners non_owners class_owners rows → ListsNonOwners non_owners (with_owner rows at c class_owners) rows
with_owner_non_owners at c non_owners class_owners rows only u = elim (only u) [ inl one ↦ inl one | inr e ↦ inr (by (row_at rows u).known refl e) ] where
  count : ℕ
  count = length rows

  same_class : (d : ℕ) → count ≤ c → count ≤ d → c - count ≡ d - count → c ≡ d
  same_class d past late e = omega (arith, past, late, e)

  added : (d : ℕ) → is_of d (row_at rows u).known ≡ true → (a : Bool) → nat_lt c count ≡ a → (b : Bool) → nat_lt d count ≡ b → is_owner u (if b then Some (record { first = d; second = d }) else slice_get class_owners (d - count)) ≡ true
      → is_owner u (if b then Some (record { first = d; second = d }) else slice_get (if a then class_owners else slice_set class_owners (c - count) (with_second rows at c (get_or class_owners (c - count) no_owners))) (d - count)) ≡ true
  added d of a x true y e = e
  added d of true x false y e = e
  added d of false x false y e = seat (is_owner u) (with_second rows at c) class_owners (c - count) (d - count) e
      (λ same owners is. second_keeps rows at c u owners (subst (λ z. is_of z (row_at rows u).known ≡ true) (sym (same_class d (lt_false c count x) (lt_false d count y) same)) of) is)

  by : (known : Known) → (row_at rows u).known ≡ known → owns_class_of count class_owners u known ≡ true → owns_class_of count (with_owner rows at c class_owners) u known ≡ true
  by (Cell d layout stale) is e = added d (ap (is_of d) is ∙ test_same d) (nat_lt c count) refl (nat_lt d count) refl e
  by Nothing is e = refl
  by (Number bits below) is e = refl
  by Null is e = refl
  by (Address base words) is e = refl
  by (GlobalAddress g) is e = refl

-- the owners of one class more
owners_more : (count : ℕ) (class_owners : List Owners) (owners : Owners) (u : ℕ) (known : Known) → owns_class_of count class_owners u known ≡ true → owns_class_of count (class_owners ++ owners ∷ []) u known ≡ true
owners_more count class_owners owners u (Cell c layout stale) h = pick (nat_lt c count) h where
  longer : (us : List Owners) (i : ℕ) → is_owner u (slice_get us i) ≡ true → is_owner u (slice_get (us ++ owners ∷ []) i) ≡ true
  longer [] i e = absurd cc
  longer (w ∷ us) zero e = e
  longer (w ∷ us) (suc i) e = longer us i e

  pick : (b : Bool) → is_owner u (if b then Some (record { first = c; second = c }) else slice_get class_owners (c - count)) ≡ true → is_owner u (if b then Some (record { first = c; second = c }) else slice_get (class_owners ++ owners ∷ []) (c - count)) ≡ true
  pick true e = e
  pick false e = longer class_owners (c - count) e
owners_more count class_owners owners u Nothing h = refl
owners_more count class_owners owners u (Number bits below) h = refl
owners_more count class_owners owners u Null h = refl
owners_more count class_owners owners u (Address base words) h = refl
owners_more count class_owners owners u (GlobalAddress g) h = refl

pub own_non_owners : (owners : Owners) (non_owners : List ℕ) (class_owners : List Owners) (rows : List Row) → ListsNonOwners non_owners class_owners rows → ListsNonOwners non_owners (class_owners ++ owners ∷ []) rows
own_non_owners owners non_owners class_owners rows only u = elim (only u) [ inl one ↦ inl one | inr e ↦ inr (owners_more (length rows) class_owners owners u (row_at rows u).known e) ]

-- a row is listed once it is recorded
pub more_non_owners : (at : ℕ) (non_owners : List ℕ) (class_owners : List Owners) (rows : List Row) → ListsNonOwners non_owners class_owners rows → ListsNonOwners (non_owners ++ at ∷ []) class_owners rows
more_non_owners at non_owners class_owners rows only u = elim (only u) [ inl one ↦ inl (in_first u non_owners (at ∷ []) one) | inr e ↦ inr e ]

-- a row whose value does not own its class is listed
pub was_non_owner : (at : ℕ) (non_owners : List ℕ) (class_owners : List Owners) (rows : List Row) → ListsNonOwners non_owners class_owners rows → owns_class (length rows) class_owners at (row_at rows at) ≡ false → IsIn at non_owners
was_non_owner at non_owners class_owners rows only e = elim (only at) [ inl one ↦ one | inr h ↦ absurd cc ]

-- by the rows as they are seen
pub kept_non_owners : (seen rows : List Row) → seen ≡ rows → (non_owners more : List ℕ) (class_owners next : List Owners) → (ListsNonOwners non_owners class_owners seen → ListsNonOwners more next seen) → ListsNonOwners non_owners class_owners rows → ListsNonOwners more next rows
kept_non_owners seen rows e non_owners more class_owners next keeps only = subst (ListsNonOwners more next) e (keeps (subst (ListsNonOwners non_owners class_owners) (sym e) only))

pub recorded_non_owners : (seen rows : List Row) → seen ≡ rows → (at : ℕ) (row : Row) (non_owners more : List ℕ) (class_owners next : List Owners) → (ListsNonOwners non_owners class_owners seen → IsIn at more ⊎ (owns_class (length seen) next at row ≡ true)) → ListsNonOwners non_owners class_owners rows → IsIn at more ⊎ (owns_class (length rows) next at row ≡ true)
recorded_non_owners seen rows e at row non_owners more class_owners next notes only = subst (λ (l : List Row). IsIn at more ⊎ (owns_class (length l) next at row ≡ true)) e (notes (subst (ListsNonOwners non_owners class_owners) (sym e) only))

-- ---- which rows may be of a class

-- each other row is of another class
abbrev pub OnlyMembers : (c : ℕ) → (listed : List ℕ) → List Row → Type 0
OnlyMembers c listed rows = (u : ℕ) → IsIn u listed ⊎ (is_of c (row_at rows u).known ≡ false)

-- the same owner
pub same_owners : (c n count : ℕ) (us class_owners : List Owners) → n ≡ count → us ≡ class_owners → owners_of n us c ≡ owners_of count class_owners c
same_owners c n count us class_owners e f = ap (λ m. owners_of m us c) e ∙ ap (λ l. owners_of count l c) f

non_owner_is_one : (first : Option Owners) (u : ℕ) (non_owners : List ℕ) → IsIn u non_owners → IsIn u (members first non_owners)
non_owner_is_one None u non_owners one = one
non_owner_is_one (Some owners) u non_owners one = inr (inr one)

owner_is_one : (first : Option Owners) (u : ℕ) (non_owners : List ℕ) → is_owner u first ≡ true → IsIn u (members first non_owners)
owner_is_one None u non_owners e = absurd cc
owner_is_one (Some owners) u non_owners e = elim (or_parts (owners.first == u) (owners.second == u) e) [ inl one ↦ inl (sym (test_true owners.first u one)) | inr second ↦ inr (inl (sym (test_true owners.second u second))) ]

pub only_members : (c : ℕ) (non_owners : List ℕ) (class_owners : List Owners) (rows : List Row) → ListsNonOwners non_owners class_owners rows → OnlyMembers c (members (owners_of (length rows) class_owners c) non_owners) rows
only_members c non_owners class_owners rows only u = elim (only u) [ inl one ↦ inl (non_owner_is_one first u non_owners one) | inr e ↦ by (row_at rows u).known e ] where
  first : Option Owners
  first = owners_of (length rows) class_owners c

  by : (known : Known) → owns_class_of (length rows) class_owners u known ≡ true → IsIn u (members first non_owners) ⊎ (is_of c known ≡ false)
  by (Cell d layout stale) e = elim (yes_or_no (d == c)) [
    | inl same ↦ inl (owner_is_one first u non_owners (subst (λ x. is_owner u (owners_of (length rows) class_owners x) ≡ true) (test_true d c same) e))
    | inr other ↦ inr other
  ]
  by Nothing e = inr refl
  by (Number bits below) e = inr refl
  by Null e = inr refl
  by (Address base words) e = inr refl
  by (GlobalAddress g) e = inr refl
