-- The words so far.
use Rattle.std.proofs.Common.{ℕ, ◌≡◌, ◌<◌, ◌^◌, length, slice_index_or}
use Rattle.runs.specs.Moves.{null}
use Rattle.stepping.specs.Starts.{value_at_start}
use Rattle.stepping.proofs.beginning.row_at_start.Given as goal

abbrev pub invariant-loop-word : goal.invariant-loop-word
invariant-loop-word l = record {
  count : length l.row ≡ l.word;
  holds : (k : ℕ) → k < length l.row → slice_index_or l.row k null ≡ record { cell = value_at_start l.values l.cell k; birth = 0 };
  fits : (k : ℕ) → k < length l.row → value_at_start l.values l.cell k < 2 ^ 64;
}
