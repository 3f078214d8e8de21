use Rattle.std.proofs.Common.{ℕ, ◌≡◌, List, [], Some, length}
use Rattle.std.specs.Prelude.{slice_get}
use Rattle.conform.proofs.record_check.no_roots.Given as goal

abbrev pub invariant-loop-thread : goal.invariant-loop-thread
invariant-loop-thread l = (length l.roots.items ≡ l._thread) × ((t : ℕ) (x : List ℕ) → slice_get l.roots.items t ≡ Some x → x ≡ [])
