-- What the heap's fields keep.
use Rattle.std.specs.Prelude.{◌^◌, ◌≤◌, ◌≡◌}
use Rattle.pools.specs.Heap.{cells}
use Rattle.heap_table.specs.declared.heap.Heap.TheInside.{Inside}

-- the pools are those of the plan, and their cells are few
pub record IsHeap (h : Inside) : Type 0 where
  pub pools : h.pools.now ≡ h.words.setup.pools
  pub few : cells h.words.setup ≤ 2 ^ 20
