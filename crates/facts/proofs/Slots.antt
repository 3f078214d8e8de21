-- Slots that hold a class no more.
use Rattle.std.proofs.Common.{◌≡◌, ℕ, List, [], ◌∷◌, map, refl, ap, true, false, Bool}
use Rattle.std.specs.Prelude.{◌||◌, if◌then◌else◌}
use Rattle.std.specs.List.{list_any}
use Rattle.fact_tables.specs.declared.known.Class.{Class}
use Rattle.fact_tables.specs.declared.known.Known.{Known}
use Rattle.fact_tables.specs.declared.known.SlotFact.{SlotFact}
use Rattle.fact_tables.specs.Rows.{class_at, is_of, holds, let_go}
use Rattle.facts.specs.Facts.{slots_of_class}

none_held : (c : ℕ) (nonnull : Bool) (slots : List SlotFact) → list_any (holds c) slots ≡ false → map (let_go c nonnull) slots ≡ slots
none_held c nonnull [] e = refl
none_held c nonnull (slot ∷ slots) e = pick (none_held c nonnull slots) (holds c slot) refl e where
  pick : (list_any (holds c) slots ≡ false → map (let_go c nonnull) slots ≡ slots) → (b : Bool) → holds c slot ≡ b → (b || list_any (holds c) slots) ≡ false → let_go c nonnull slot ∷ map (let_go c nonnull) slots ≡ slot ∷ slots
  pick more true is e = absurd cc
  pick more false is e = rw is (ap (λ l. slot ∷ l) (more e))

-- where no slot holds a class, no slot lets it go
pub free_slots : (c : ℕ) (values : List Known) (classes : List Class) (slots : List SlotFact) → list_any (holds c) slots ≡ false → slots_of_class c values classes slots ≡ slots
free_slots c values classes slots e = pick (list_any (is_of c) values) where
  pick : (b : Bool) → (if b then slots else map (let_go c (class_at classes c).nonnull) slots) ≡ slots
  pick true = refl
  pick false = none_held c (class_at classes c).nonnull slots e
