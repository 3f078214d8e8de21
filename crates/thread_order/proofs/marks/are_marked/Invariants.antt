use Rattle.std.proofs.Common.{◌≡◌, drop}
use Rattle.thread_order.specs.Marks.{are_marked}
use Rattle.thread_order.proofs.marks.are_marked.Given as goal

abbrev pub invariant-loop-root : goal.invariant-loop-root
invariant-loop-root l = are_marked l.left (drop l.root-index l.roots) ≡ are_marked l.marked l.roots
