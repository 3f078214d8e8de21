use Rattle.std.proofs.Common.{◌≡◌, ℕ, List, length}
use Rattle.shadow_stack.specs.Slots.{AreBack}
use Rattle.shadow_stack.specs.declared.draft.Origin.{Origin}
use Rattle.shadow_stack.proofs.Turns.{AreHopped}
use Rattle.shadow_stack.proofs.hops.hop_each.Given as goal

abbrev pub invariant-loop-at : goal.invariant-loop-at
invariant-loop-at l = record {
  as_many : length l.row ≡ length l.initial.row;
  hopped : (origins : List Origin) (n : ℕ) → AreBack origins n l.initial.row → AreHopped origins n l.at l.row;
}
