use Rattle.std.proofs.Common.{◌≡◌, ◌≤◌, ℕ, Some, length, slice_get}
use Rattle.layout.proofs.ring.count_before.Given as goal

abbrev pub invariant-loop-left : goal.invariant-loop-left
invariant-loop-left l = (l.left ≤ length l.places) × ((k number : ℕ) → l.left ≤ k → slice_get l.places k ≡ Some number → l.limit ≤ number)

abbrev pub decreases-loop-left : goal.decreases-loop-left
decreases-loop-left l = l.left
