-- A row that is of a class from now on.
use Rattle.std.specs.Prelude.{ℕ, Bool, not, ◌&&◌, List}
use Rattle.fact_tables.specs.declared.owners.Owners.{Owners}
use Rattle.fact_tables.specs.declared.known.Known.{Known}
use Rattle.fact_tables.specs.declared.known.Known.TheVariants.{Cell}
use Rattle.fact_tables.specs.declared.row.Row.{Row}
use Rattle.fact_tables.specs.Owners.{owns_class, with_owner}

-- the owners of the classes, where a value is known to be this from now on
abbrev pub with_owner_of : (rows : List Row) → (at : ℕ) → Known → (class_owners : List Owners) → List Owners
with_owner_of rows at (Cell c layout stale) class_owners = with_owner rows at c class_owners
with_owner_of rows at _ class_owners = class_owners

-- a row is now of a class that its value does not own, and was not before
abbrev pub is_new_non_owner : (count : ℕ) → (class_owners : List Owners) → (at : ℕ) → (before after : Row) → Bool
is_new_non_owner count class_owners at before after = owns_class count class_owners at before && not (owns_class count class_owners at after)
