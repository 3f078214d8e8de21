-- The values that own a class, and the values that are of a class which they do not own.
use Rattle.std.specs.Prelude.{◌≡◌, ◌⊎◌, ℕ, ◌-◌, ◌==◌, Bool, true, false, not, ◌||◌, slice_set, slice_index_or, List, ◌∷◌, length, slice_get, nat_lt, Option, Some, None, if◌then◌else◌}
use Rattle.lemmas.specs.Lists.{IsIn}
use Rattle.fact_tables.specs.declared.owners.Owners.{Owners}
use Rattle.fact_tables.specs.declared.known.Known.{Known}
use Rattle.fact_tables.specs.declared.known.Known.TheVariants.{Cell}
use Rattle.fact_tables.specs.declared.row.Row.{Row}
use Rattle.fact_tables.specs.Sheets.{row_at, row_is_of}

-- the values that own a class: the first classes are one for each value, and the owners of those that were added are listed
abbrev pub owners_of : (count : ℕ) → (class_owners : List Owners) → (c : ℕ) → Option Owners
owners_of count class_owners c = if nat_lt c count then Some (record { first = c; second = c }) else slice_get class_owners (c - count)

-- this is one of them
abbrev pub is_owner : (u : ℕ) → (owners : Option Owners) → Bool
is_owner u None = false
is_owner u (Some owners) = (owners.first == u) || (owners.second == u)

-- a value that is known to be this is of no class, or of one that it owns
abbrev pub owns_class_of : (count : ℕ) → (class_owners : List Owners) → (u : ℕ) → Known → Bool
owns_class_of count class_owners u (Cell c layout stale) = is_owner u (owners_of count class_owners c)
owns_class_of count class_owners u _ = true

-- and so is the value of a row
abbrev pub owns_class : (count : ℕ) → (class_owners : List Owners) → (u : ℕ) → Row → Bool
owns_class count class_owners u row = owns_class_of count class_owners u row.known

-- each row that is not listed is of no class, or of one that its value owns
abbrev pub ListsNonOwners : (non_owners : List ℕ) → (class_owners : List Owners) → List Row → Type 0
ListsNonOwners non_owners class_owners rows = (v : ℕ) → IsIn v non_owners ⊎ (owns_class (length rows) class_owners v (row_at rows v) ≡ true)

-- this value owns a class too, where the second of its owners is not needed: that is the first one, or of the class no more
abbrev pub with_second : (rows : List Row) → (at c : ℕ) → Owners → Owners
with_second rows at c owners = if (owners.first == owners.second) || not (row_is_of c rows owners.second) then record owners { second = at } else owners

-- no values
abbrev pub no_owners : Owners
no_owners = record { first = 0; second = 0 }

-- the owners of the classes, where a value is of a class from now on
abbrev pub with_owner : (rows : List Row) → (at c : ℕ) → (class_owners : List Owners) → List Owners
with_owner rows at c class_owners = if nat_lt c (length rows) then class_owners else slice_set class_owners (c - length rows) (with_second rows at c (slice_index_or class_owners (c - length rows) no_owners))

-- the rows that may be of a class: those of its owners, and those that are listed
abbrev pub members : (owners : Option Owners) → (non_owners : List ℕ) → List ℕ
members None non_owners = non_owners
members (Some owners) non_owners = owners.first ∷ owners.second ∷ non_owners
