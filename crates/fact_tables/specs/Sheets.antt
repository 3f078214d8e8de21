-- A row for each value, of which few are filled.
use Rattle.std.specs.Prelude.{◌≡◌, ◌<◌, ◌⊎◌, ℕ, Bool, true, false, not, ◌&&◌, ◌||◌, ◌==◌, List, [], ◌∷◌, ◌++◌, length, slice_index_or, Option, Some, None, if◌then◌else◌}
use Rattle.lemmas.specs.Lists.{IsIn}
use Rattle.fact_tables.specs.declared.known.Class.{Class}
use Rattle.fact_tables.specs.declared.known.Known.{Known}
use Rattle.fact_tables.specs.declared.known.Known.TheVariants.{Nothing, Cell}
use Rattle.fact_tables.specs.declared.known.Test.{Test}
use Rattle.fact_tables.specs.declared.row.Row.{Row}
use Rattle.fact_tables.specs.declared.sweeps.Change.{Change}
use Rattle.fact_tables.specs.declared.sweeps.Change.TheVariants.{Off, Settle}
use Rattle.fact_tables.specs.Rows.{lost_class, class_at, is_of, is_on, off_base, off_test, stale_of}
use Rattle.fact_tables.specs.EachListed.{OnlyListed}
use Rattle.fact_tables.specs.Covers.{covers_value}

-- ---- rows

-- a row of which nothing is known
abbrev pub blank : Row
blank = record { known = Nothing; test = None; class = lost_class; used = None; aside = false }

-- a row, or a blank one
abbrev pub row_at : List Row → ℕ → Row
row_at rows v = slice_index_or rows v blank

-- what is known of the value
abbrev pub known_of : Row → Known
known_of row = row.known

-- the comparison that gave the value
abbrev pub test_of : Row → Option Test
test_of row = row.test

-- what is known of the class that the value has for itself
abbrev pub class_of : Row → Class
class_of row = row.class

-- nothing is known
abbrev pub is_nothing : Known → Bool
is_nothing Nothing = true
is_nothing _ = false

-- no comparison
abbrev pub is_no_test : Option Test → Bool
is_no_test None = true
is_no_test (Some test) = false

-- a value is not used
abbrev pub is_no_use : Option ℕ → Bool
is_no_use None = true
is_no_use (Some at) = false

-- nothing is known of a row
abbrev pub is_blank : Row → Bool
is_blank row = is_nothing row.known && is_no_test row.test && not row.class.nonnull && not row.class.fresh && is_no_use row.used && not row.aside

-- ---- rows that are marked

-- each row that is not marked is blank
abbrev pub OnlyMarked : (marked : List ℕ) → List Row → Type 0
OnlyMarked marked rows = OnlyListed blank marked rows

-- a safepoint leaves a row whose value is known to be this as it is: a reference is stale and of the class that the value has for itself, and whether that is null is recorded
abbrev pub is_settled_as : (u : ℕ) → (aside : Bool) → (own : Class) → Known → Bool
is_settled_as u aside own (Cell c layout stale) = (c == u) && stale && not own.fresh && (if own.nonnull then aside else not aside)
is_settled_as u aside own _ = not aside

-- a safepoint leaves this row as it is
abbrev pub is_settled : (u : ℕ) → Row → Bool
is_settled u row = is_settled_as u row.aside row.class row.known

-- a safepoint leaves each other row as it is
abbrev pub OnlyCurrent : (current : List ℕ) → List Row → Type 0
OnlyCurrent current rows = (v : ℕ) → IsIn v current ⊎ (is_settled v (row_at rows v) ≡ true)

-- a safepoint left the row before as it was, and does not leave the row after
abbrev pub is_unsettled : (v : ℕ) → (before after : Row) → Bool
is_unsettled v before after = is_settled v before && not (is_settled v after)

-- the rows that a safepoint may change once v has another row
abbrev pub with_current : (v : ℕ) → (before after : Row) → (current : List ℕ) → List ℕ
with_current v before after current = if is_unsettled v before after then current ++ v ∷ [] else current

-- the rows that are marked once v is filled, whose row was this
abbrev pub with_mark : (v : ℕ) → Row → (marked : List ℕ) → List ℕ
with_mark v row marked = if is_blank row then marked ++ v ∷ [] else marked

-- each row is changed
abbrev pub EachRow : (ℕ → Row → Row) → (before after : List Row) → Type 0
EachRow change before after = (length after ≡ length before) × ((v : ℕ) → v < length before → row_at after v ≡ change v (row_at before v))

-- ---- changes of rows

-- a row names v no more
abbrev pub off_row : (v : ℕ) → Row → Row
off_row v row = record row { known = off_base v row.known; test = off_test v row.test }

-- a value that is known to be this is no null reference
abbrev pub known_nonnull : List Class → Known → Bool
known_nonnull classes (Cell c layout stale) = (class_at classes c).nonnull
known_nonnull classes _ = false

-- whether the class of a value is not null is recorded
abbrev pub keep_row : List Class → ℕ → Row → Row
keep_row classes u row = record row { aside = known_nonnull classes row.known }

-- the class that a value has for itself, once the value is stale: it is as null as was recorded
abbrev pub settled_class : (aside : Bool) → Class → Known → Class
settled_class aside own (Cell c layout stale) = record { nonnull = aside; fresh = false }
settled_class aside own _ = own

-- a reference is stale, and of the class that its value has for itself
abbrev pub settle_row : ℕ → Row → Row
settle_row u row = record row { known = stale_of (u, row.known); class = settled_class row.aside row.class row.known }

-- each of these changes
abbrev pub changed : Change → ℕ → Row → Row
changed (Off v) u row = off_row v row
changed Settle u row = settle_row u row

-- what a safepoint does to a row
abbrev pub stale_row : List Class → ℕ → Row → Row
stale_row classes u row = settle_row u (keep_row classes u row)

-- ---- questions

-- a row is of a class
abbrev pub row_is_of : (c : ℕ) → List Row → ℕ → Bool
row_is_of c rows u = is_of c (row_at rows u).known

-- a row but v is of a class
abbrev pub other_is_of : (v c : ℕ) → List Row → ℕ → Bool
other_is_of v c rows u = not (u == v) && row_is_of c rows u

-- a row of the class here is listed there as of the other, if as a reference
abbrev pub covers_row : (c d : ℕ) → (here there : List Row) → ℕ → Bool
covers_row c d here there u = covers_value c d ((row_at here u).known, (row_at there u).known)

-- ---- values that are named

-- a comparison of v
abbrev pub tests : (v : ℕ) → Option Test → Bool
tests v None = false
tests v (Some test) = test.tested == v

-- a row names v
abbrev pub names : (v : ℕ) → Row → Bool
names v row = is_on v row.known || tests v row.test
