-- Sets of cells: for each cell whether it is in the set.
use Rattle.std.specs.Prelude.{ℕ, zero, suc, ◌==◌, Bool, false, true, List, [], ◌∷◌, map, slice_index_or, slice_set}

-- the cell is in the set
abbrev pub has : (set : List Bool) → (cell : ℕ) → Bool
has set cell = slice_index_or set cell false

-- the set with this cell too; null is in none
abbrev pub with_cell : (set : List Bool) → (cell : ℕ) → List Bool
with_cell set zero = set
with_cell set (suc cell) = slice_set set (suc cell) true

-- and with each of these
abbrev pub with_cells : (set : List Bool) → (cells : List ℕ) → List Bool
with_cells set [] = set
with_cells set (cell ∷ cells) = with_cells (with_cell set cell) cells

-- the cells that have the stamp of this round
abbrev pub of_round : (round : ℕ) → (stamps : List ℕ) → List Bool
of_round round stamps = map (λ stamp. stamp == round) stamps
