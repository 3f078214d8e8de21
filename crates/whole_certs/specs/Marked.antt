-- Rows of yes and no.
use Rattle.std.specs.Prelude.{ℕ, Bool, false, List, slice_get, unwrap_or}

-- whether a place of a row is marked
abbrev pub is_marked : List Bool → (place : ℕ) → Bool
is_marked row place = unwrap_or (slice_get row place) false
