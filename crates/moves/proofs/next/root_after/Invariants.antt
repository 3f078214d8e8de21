-- The root at the given place of the whole list is the root at the remaining place of the rest. Each root that was passed is one of the list.
use Rattle.std.proofs.Common.{◌≡◌, ◌≤◌, ◌+◌, ◌==◌, not, filter, drop, slice_get}
use Rattle.moves.proofs.next.root_after.Given as goal

abbrev pub invariant-loop-root : goal.invariant-loop-root
invariant-loop-root l =
    (slice_get (filter (λ r. not (r.cell == 0)) l.roots) l.marked ≡ slice_get (filter (λ r. not (r.cell == 0)) (drop l.root-index l.roots)) l.left)
    × (l.marked ≤ l.root-index + l.left)
