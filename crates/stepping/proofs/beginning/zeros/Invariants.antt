-- The zeros so far.
use Rattle.std.proofs.Common.{ℕ, ◌≡◌, length, slice_index}
use Rattle.stepping.proofs.beginning.zeros.Given as goal

abbrev pub invariant-loop-at : goal.invariant-loop-at
invariant-loop-at l = record {
  count : length l.numbers ≡ l._at;
  zeros : (k : ℕ) → slice_index l.numbers k ≡ 0;
}
