-- Where the cells lie in the table.
use Rattle.std.specs.Prelude.{ℕ, suc, ◌≤◌, ◌≡◌, List, length, slice_index}
use Rattle.pools.specs.Heap.{Setup, cells}
use Rattle.heap_rule.specs.Rule.{start}

-- where each cell begins, and where the table ends
pub record AreStarts (s : Setup) (starts : List ℕ) : Type 0 where
  pub count : length starts ≡ suc (cells s)
  pub each : (cell : ℕ) → cell ≤ cells s → slice_index starts cell ≡ start s cell
