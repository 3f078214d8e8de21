use Rattle.std.proofs.Common.{◌≡◌, ◌+◌, ◌-◌, ◌∙◌, Some, slice_get, sym, ap, subst, arith}
use Rattle.layout.specs.Jumps.{words_over}
use Rattle.layout.specs.Offsets.{sum_of}
use Rattle.layout.proofs.Jumps.{sums, none_after, words_on}
use Rattle.layout.proofs.sizes.Sizes.words_over.Goals as goal

pub loop-left-preserved : goal.loop-left-preserved
loop-left-preserved c =
    let types = c.args.types.now in
    let sizes = c.args.self.now.each in
    let to = c.loop-left.to in
    let words = c.loop-left.words in
    let over = c.in_ok-over.over in
    let is = c.in_ok-over.ensures.some in
    let left = c.loop-left.left - c.from-left.result in
    let within = is.2 in
    let fields = c.from-left.ensures in
    let split : c.loop-left.left ≡ over.fields + left = omega (arith, within, fields) in
    let passed = words_over types sizes (slice_get types to) over.fields in
    let others = words_over types sizes (slice_get types over.to) left in
    let now : c.sum_within-words.result ≡ sum_of words passed = c.sum_within-words.ensures ∙ ap (sum_of words) is.0.1 in (
      c.loop-left.invariant.0 ∙ ap (λ n. sum_of words (words_over types sizes (slice_get types to) n)) split ∙ ap (sum_of words) (words_on types sizes to over.fields left over.to is.0.0)
          ∙ sums words passed others
          ∙ ap (λ w. sum_of w others) (sym now),
      subst (λ w. sum_of w (Some 0) ≡ w) (sym now) (none_after words passed),
    )
