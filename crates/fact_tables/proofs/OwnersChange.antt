-- A row that is of a class from now on.
use Rattle.std.proofs.Common.{◌≡◌, ◌⊎◌, ◌∙◌, ℕ, List, length, refl, sym, ap, subst, inl, inr, true, false, Bool}
use Rattle.std.specs.Prelude.{not, ◌&&◌}
use Rattle.lemmas.specs.Lists.{IsIn}
use Rattle.fact_tables.specs.declared.owners.Owners.{Owners}
use Rattle.fact_tables.specs.declared.known.Known.{Known}
use Rattle.fact_tables.specs.declared.known.Known.TheVariants.{Nothing, Number, Cell, Null, Address, GlobalAddress}
use Rattle.fact_tables.specs.declared.row.Row.{Row}
use Rattle.fact_tables.specs.Owners.{owns_class, ListsNonOwners}
use Rattle.fact_tables.specs.Owned.{with_owner_of, is_new_non_owner}
use Rattle.fact_tables.specs.Sheets.{row_at}
use Rattle.fact_tables.proofs.OwnersOf.{with_owner_non_owners, was_non_owner}

with_owner_of_non_owners : (at : ℕ) (known : Known) (non_owners : List ℕ) (class_owners : List Owners) (rows : List Row) → ListsNonOwners non_owners class_owners rows → ListsNonOwners non_owners (with_owner_of rows at known class_owners) rows
with_owner_of_non_owners at (Cell c layout stale) non_owners class_owners rows only = with_owner_non_owners at c non_owners class_owners rows only
with_owner_of_non_owners at Nothing non_owners class_owners rows only = only
with_owner_of_non_owners at (Number bits below) non_owners class_owners rows only = only
with_owner_of_non_owners at Null non_owners class_owners rows only = only
with_owner_of_non_owners at (Address base words) non_owners class_owners rows only = only
with_owner_of_non_owners at (GlobalAddress g) non_owners class_owners rows only = only

-- the list stays while a value owns a class too
pub after_owner : (at : ℕ) (known : Known) (non_owners : List ℕ) (class_owners next : List Owners) (rows : List Row) → next ≡ with_owner_of rows at known class_owners → ListsNonOwners non_owners class_owners rows → ListsNonOwners non_owners next rows
after_owner at known non_owners class_owners next rows e only = subst (λ l. ListsNonOwners non_owners l rows) (sym e) (with_owner_of_non_owners at known non_owners class_owners rows only)

-- a row that is not listed is of a class that its value owns
pub stays_owner : (at : ℕ) (row : Row) (non_owners : List ℕ) (class_owners : List Owners) (rows : List Row) → ListsNonOwners non_owners class_owners rows → is_new_non_owner (length rows) class_owners at (row_at rows at) row ≡ false → IsIn at non_owners ⊎ (owns_class (length rows) class_owners at row ≡ true)
stays_owner at row non_owners class_owners rows only e = pick (owns_class (length rows) class_owners at (row_at rows at)) refl (owns_class (length rows) class_owners at row) refl where
  pick : (a : Bool) → owns_class (length rows) class_owners at (row_at rows at) ≡ a → (b : Bool) → owns_class (length rows) class_owners at row ≡ b → IsIn at non_owners ⊎ (owns_class (length rows) class_owners at row ≡ true)
  pick a x true y = inr y
  pick true x false y = absurd (let here : (true && not false) ≡ false = sym (ap (λ b. b && not (owns_class (length rows) class_owners at row)) x ∙ ap (λ b. true && not b) y) ∙ e in cc)
  pick false x false y = inl (was_non_owner at non_owners class_owners rows only x)
