-- Names and their numbers.
use Rattle.std.specs.Prelude.{ℕ, List, ◌++◌, [], ◌∷◌, Option, position, length, slice_get, unwrap_or, is_some, if◌then◌else◌}
use Rattle.std.specs.Str.{bytes_eq}

-- the number of a name: its place, if it is there
abbrev pub place_of : List ℕ → List (List ℕ) → Option ℕ
place_of text names = position (bytes_eq text) names

-- the number of a name, where a new one is numbered after the others
abbrev pub number_of : List ℕ → List (List ℕ) → ℕ
number_of text names = unwrap_or (place_of text names) (length names)

-- the names with this one, which is added at the end where it is new
abbrev pub numbered : List ℕ → List (List ℕ) → List (List ℕ)
numbered text names = if is_some (place_of text names) then names else names ++ text ∷ []

-- the name with this number, empty where there is none
abbrev pub name_at : List (List ℕ) → (number : ℕ) → List ℕ
name_at names number = unwrap_or (slice_get names number) []
