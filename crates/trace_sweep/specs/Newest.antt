-- The cells in an array, the newest first.
use Rattle.std.specs.Prelude.{ℕ, zero, suc, Option, Some, None, List, [], ◌∷◌, slice_index}

-- the first `count` cells of an array, the last of them first
abbrev pub newest : List ℕ → (count : ℕ) → List ℕ
newest cells zero = []
newest cells (suc count) = slice_index cells count ∷ newest cells count

-- the first of a list, if there is one
abbrev pub first_of : List ℕ → Option ℕ
first_of [] = None
first_of (cell ∷ listed) = Some cell

-- the list without its first
abbrev pub rest_of : List ℕ → List ℕ
rest_of [] = []
rest_of (cell ∷ listed) = listed
