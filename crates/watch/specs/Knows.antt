-- What is known of a thread: exactly what it holds after its log, and exactly what is fresh.
use Rattle.std.specs.Prelude.{ℕ, ◌≡◌, ◌↔◌, List, length, IsTrue}
use Rattle.pools.specs.Heap.{Setup, cells}
use Rattle.colours.specs.Steps.{Step}
use Rattle.colours.specs.Mutator.{Held, Fresh}
use Rattle.watch.specs.CellSets.{has}
use Rattle.watch.specs.declared.holdings.Holdings.{Holdings}

-- the two sets are of the heap's cells, and have the cells that are held and those that are fresh; null is never held
pub record Knows (s : Setup) (log : List Step) (known : Holdings) : Type 0 where
  pub held_of : length known.held ≡ cells s
  pub fresh_of : length known.fresh ≡ cells s
  pub held : (cell : ℕ) → IsTrue (has known.held cell) ↔ Held s log cell
  pub fresh : (cell : ℕ) → IsTrue (has known.fresh cell) ↔ Fresh s log cell
  pub null : ¬ Held s log 0
