use Rattle.std.proofs.Common.{◌≡◌, ◌<◌, ℕ}
use Rattle.std.specs.Prelude.{slice_index_or}
use Rattle.watch.proofs.cell_set.CellSet.forget.Given as goal

abbrev pub invariant-loop-stamp : goal.invariant-loop-stamp
invariant-loop-stamp l = (k d : ℕ) → k < l.stamp-index → slice_index_or l.stamp-items k d ≡ 0
