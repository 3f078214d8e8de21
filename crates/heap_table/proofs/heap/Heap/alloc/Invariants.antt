use Rattle.std.proofs.Common.{[], ◌-◌, ◌++◌}
use Rattle.heap_table.specs.Allocs.{lost}
use Rattle.heap_table.specs.Holders.{IsNow}
use Rattle.heap_table.proofs.Allocs.{tried_up}
use Rattle.heap_table.proofs.heap.Heap.alloc.Given as goal

abbrev pub invariant-loop-cell : goal.invariant-loop-cell
invariant-loop-cell l = IsNow l.fn.me (lost (tried_up l.hinted (l.cell - l.hinted) []) ++ l.fn.me.log) l.me

abbrev pub invariant-loop-cell-2 : goal.invariant-loop-cell-2
invariant-loop-cell-2 l = IsNow l.fn.me (lost (tried_up l.first (l.cell - l.first) (tried_up l.hinted (l.end - l.hinted) [])) ++ l.fn.me.log) l.me
