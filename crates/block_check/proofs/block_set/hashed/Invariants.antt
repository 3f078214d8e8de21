use Rattle.std.proofs.Common.{◌≡◌, ℕ, take}
use Rattle.block_check.specs.Predecessors.{is_in}
use Rattle.block_check.proofs.block_set.hashed.Given as goal

abbrev pub invariant-loop-number : goal.invariant-loop-number
invariant-loop-number l = (other : ℕ) → is_in l.set.keys other ≡ is_in (take l.number-index l.numbers) other
