use Rattle.std.proofs.Common.{◌≡◌, take}
use Rattle.pools.specs.Heap.{cells_in}
use Rattle.pools.specs.Pools.{ends_from}
use Rattle.pools.proofs.pools.ends_of.Given as goal

abbrev pub invariant-loop-count : goal.invariant-loop-count
invariant-loop-count l = record { so_far : l.end ≡ cells_in (take l.count-index l.counts); ends : l.ends ≡ ends_from 1 (take l.count-index l.counts) }
