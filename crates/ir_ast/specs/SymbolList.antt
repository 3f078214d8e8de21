-- Global names in a list, and a mark for each.
use Rattle.std.specs.Prelude.{◌≡◌, ℕ, ◌==◌, Bool, false, List, slice_get, unwrap_or}
use Rattle.std.specs.List.{list_any}

-- a name is marked
abbrev pub is_marked : (marks : List Bool) → (symbol : ℕ) → Bool
is_marked marks symbol = unwrap_or (slice_get marks symbol) false

-- the names that are marked are those that are listed
abbrev pub AreMarks : (listed : List ℕ) → (marks : List Bool) → Type 0
AreMarks listed marks = (symbol : ℕ) → is_marked marks symbol ≡ list_any (λ s. s == symbol) listed
