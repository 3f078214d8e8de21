-- Pools of cells.
use Rattle.std.specs.Prelude.{ℕ, suc, ◌+◌, ◌^◌, ◌≡◌, ◌<◌, ◌≤◌, List, [], ◌∷◌, length, sum, take}
use Rattle.pools.specs.Heap.{cells_in}

-- the number of a pool's first cell: cells are numbered from 1, the first layout's pool first
abbrev pub first_cell : (counts : List ℕ) → (layout : ℕ) → ℕ
first_cell counts layout = suc (sum (take layout counts))

-- for each pool the number after that of its last cell, where the first pool begins at this number
abbrev pub ends_from : (first : ℕ) → (counts : List ℕ) → List ℕ
ends_from first [] = []
ends_from first (count ∷ counts) = (first + count) ∷ ends_from (first + count) counts

-- the pools have these counts and end at these numbers, and their cells, with that of the globals, are within the limit
pub record ArePools (counts ends : List ℕ) : Type 0 where
  pub ends_are : ends ≡ ends_from 1 counts
  pub limit : cells_in counts ≤ 2 ^ 20
  pub few : length counts < 2 ^ 32
