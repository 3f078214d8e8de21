-- One zero more.
use Rattle.std.proofs.Common.{ℕ, ◌+◌, List, [], ◌∷◌, length, length-append, slice_index, ap, ◌∙◌}
use Rattle.stepping.proofs.Beginnings.{zeros-more}
use Rattle.stepping.proofs.beginning.zeros.Goals as goal

pub loop-at-init : goal.loop-at-init
loop-at-init c = record { count = ap length c.new-numbers.ensures; zeros = λ k. ap (λ (xs : List ℕ). slice_index xs k) c.new-numbers.ensures }

pub loop-at-preserved : goal.loop-at-preserved
loop-at-preserved c = record {
  count = ap length c.in_ok-push.ensures.ok ∙ length-append c.loop-at.numbers (0 ∷ []) ∙ ap (λ n. n + 1) c.loop-at.invariant.count;
  zeros = λ k. ap (λ (xs : List ℕ). slice_index xs k) c.in_ok-push.ensures.ok ∙ zeros-more c.loop-at.numbers c.loop-at.invariant.zeros k;
}
