use Rattle.std.proofs.Common.{◌≡◌, length}
use Rattle.layout.specs.Jumps.{AreOver}
use Rattle.layout.proofs.sizes.Sizes.of.Given as goal

abbrev pub invariant-loop-number : goal.invariant-loop-number
invariant-loop-number l = (l.sizes.each ≡ l.fn.each) × (length l.sizes.jumps ≡ l.number) × AreOver l.types l.sizes.each l.sizes.jumps
