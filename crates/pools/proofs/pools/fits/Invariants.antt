use Rattle.std.proofs.Common.{◌≡◌, ◌≤◌, ◌^◌, take}
use Rattle.pools.specs.Heap.{cells_in}
use Rattle.pools.proofs.pools.fits.Given as goal

abbrev pub invariant-loop-count : goal.invariant-loop-count
invariant-loop-count l = record { so_far : l.cells ≡ cells_in (take l.count-index l.counts); limit : l.cells ≤ 2 ^ 20 }
