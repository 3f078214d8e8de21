use Rattle.std.proofs.Common.{ℕ, ◌<◌, ◌≤◌, length}
use Rattle.std.specs.Prelude.{slice_get}
use Rattle.machine.specs.Jumps.{phis_of}
use Rattle.machine.proofs.entry.most_phis.Given as goal

abbrev pub invariant-loop-block : goal.invariant-loop-block
invariant-loop-block l = (block : ℕ) → block < l.block-index → length (phis_of (slice_get l.function.blocks block)) ≤ l.most
