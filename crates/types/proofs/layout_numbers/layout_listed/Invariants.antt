use Rattle.std.proofs.Common.{◌≡◌, length}
use Rattle.types.specs.LayoutNumbers.{layout_listed}
use Rattle.types.proofs.layout_numbers.layout_listed.Given as goal

abbrev pub invariant-loop-left : goal.invariant-loop-left
invariant-loop-left l = layout_listed l.numbers l.number ≡ layout_listed l.left l.number

abbrev pub decreases-loop-left : goal.decreases-loop-left
decreases-loop-left l = length l.left
