use Rattle.std.proofs.Common.{◌≡◌, take}
use Rattle.copies.proofs.copied.copies.Given as goal

abbrev pub invariant-loop-element : goal.invariant-loop-element
invariant-loop-element g l = l.copies ≡ take l.element-index l.fn.elements
