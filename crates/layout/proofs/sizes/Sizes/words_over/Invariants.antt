use Rattle.std.proofs.Common.{◌≡◌, Some, slice_get}
use Rattle.layout.specs.Jumps.{words_over}
use Rattle.layout.specs.Offsets.{sum_of}
use Rattle.layout.proofs.sizes.Sizes.words_over.Given as goal

abbrev pub invariant-loop-left : goal.invariant-loop-left
invariant-loop-left l =
    (words_over l.types l.self.each (slice_get l.types l.fn.written) l.fn.number ≡ sum_of l.words (words_over l.types l.self.each (slice_get l.types l.to) l.left))
    × (sum_of l.words (Some 0) ≡ l.words)

abbrev pub decreases-loop-left : goal.decreases-loop-left
decreases-loop-left l = l.left
