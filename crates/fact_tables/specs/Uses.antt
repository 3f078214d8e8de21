-- The rows that name a value.
use Rattle.std.specs.Prelude.{◌≡◌, ◌<◌, ℕ, zero, suc, true, List, [], ◌∷◌, ◌++◌, length, slice_get, slice_set, Option, Some, None}
use Rattle.lemmas.specs.Lists.{IsIn}
use Rattle.fact_tables.specs.declared.known.Class.{Class}
use Rattle.fact_tables.specs.declared.row.Row.{Row}
use Rattle.fact_tables.specs.declared.uses.Use.{Use}
use Rattle.fact_tables.specs.Sheets.{row_at, names}
use Rattle.fact_tables.specs.Values.{facts_of_rows}

-- the use at a place, if there is one
abbrev pub use_at : List Use → Option ℕ → Option Use
use_at uses None = None
use_at uses (Some at) = slice_get uses at

-- the user of a use, and those of the uses before it
abbrev pub users_of : Option Use → (Option ℕ → List ℕ) → List ℕ
users_of None rest = []
users_of (Some found) rest = found.user ∷ rest found.before

-- the users of `count` uses, from this one back
abbrev pub chain : (count : ℕ) → List Use → Option ℕ → List ℕ
chain zero uses at = []
chain (suc count) uses at = users_of (use_at uses at) (chain count uses)

-- a row is one of those that have named a value
abbrev pub IsUser : List Use → List Row → (u v : ℕ) → Type 0
IsUser uses rows u v = IsIn u (chain (length uses) uses (row_at rows v).used)

-- each row that names a value is a user of it
abbrev pub OnlyUsers : List Use → List Row → Type 0
OnlyUsers uses rows = (u v : ℕ) → names v (row_at rows u) ≡ true → v < length rows → IsUser uses rows u v

-- one use more, of v by u
abbrev pub use_more : (u v : ℕ) → List Row → List Use → List Use
use_more u v rows uses = uses ++ record { user = u; before = (row_at rows v).used } ∷ []

-- v is used by the use that comes after these
abbrev pub use_row : (v : ℕ) → List Use → List Row → List Row
use_row v uses rows = slice_set rows v (record (row_at rows v) { used = Some (length uses) })

-- what the rows say is as before
abbrev pub SayTheSame : (before after : List Row) → Type 0
SayTheSame before after = (added : List Class) → facts_of_rows after added ≡ facts_of_rows before added

-- each value is used as before
abbrev pub SameUses : (before after : List Row) → Type 0
SameUses before after = (length after ≡ length before) × ((u : ℕ) → (row_at after u).used ≡ (row_at before u).used)
