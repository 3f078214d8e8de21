-- What is known of values and classes, and the rows that hold it.
use Rattle.std.specs.Prelude.{ℕ, Bool, true, false, ◌||◌, List, [], ◌∷◌, ◌++◌, map, length, replicate, slice_set, Option, None}
use Rattle.fact_tables.specs.declared.known.Class.{Class}
use Rattle.fact_tables.specs.declared.known.Known.{Known}
use Rattle.fact_tables.specs.declared.known.Known.TheVariants.{Nothing, Cell}
use Rattle.fact_tables.specs.declared.known.Test.{Test}
use Rattle.fact_tables.specs.declared.row.Row.{Row}
use Rattle.fact_tables.specs.Rows.{lost_class, class_at, values_without, tests_without}
use Rattle.fact_tables.specs.Sheets.{known_of, test_of, class_of}

-- what is known of each value and each class, and the comparison that gave each value
pub record ValueFacts : Type 0 where
  pub values : List Known
  pub classes : List Class
  pub tests : List (Option Test)

-- these facts
abbrev pub the_facts : List Known → List Class → List (Option Test) → ValueFacts
the_facts values classes tests = record { values = values; classes = classes; tests = tests }

-- what rows say, and the classes that were added
abbrev pub facts_of_rows : List Row → List Class → ValueFacts
facts_of_rows rows added = record { values = map known_of rows; classes = map class_of rows ++ added; tests = map test_of rows }

-- where nothing is known of this number of values
abbrev pub no_values : ℕ → ValueFacts
no_values count = record { values = replicate count Nothing; classes = replicate count lost_class; tests = replicate count None }

-- the row of a value of which nothing is known any more, and which nothing uses
abbrev pub ended_row : Row → Row
ended_row row = record row { known = Nothing; test = None; used = None; aside = false }

-- this is known of v, which this comparison gave, and no more
abbrev pub defined : ℕ → Known → Option Test → ValueFacts → ValueFacts
defined v known test f = record f { values = slice_set (values_without v f.values) v known; tests = slice_set (tests_without v f.tests) v test }

-- a class is not null where this holds
abbrev pub learned : (c : ℕ) → (nonnull : Bool) → ValueFacts → ValueFacts
learned c nonnull f = let class = class_at f.classes c in record f { classes = slice_set f.classes c (record class { nonnull = class.nonnull || nonnull }) }

-- the row of a value of which this is known from now on
abbrev pub defined_row : Known → Option Test → Row → Row
defined_row known test row = record row { known = known; test = test; aside = false }

-- a reference
abbrev pub is_reference : Known → Bool
is_reference (Cell c layout stale) = true
is_reference _ = false

-- a row of whose class, which is not null, this is known: a safepoint changes the row only where it did
abbrev pub learned_row : Class → Row → Row
learned_row class row = record row { class = class; aside = row.aside || is_reference row.known }

-- v is a reference to this layout, of a new class
abbrev pub new_of : (v layout : ℕ) → (nonnull : Bool) → ValueFacts → ValueFacts
new_of v layout nonnull f = defined v (Cell (length f.classes) layout false) None (record f { classes = f.classes ++ record { nonnull = nonnull; fresh = false } ∷ [] })
