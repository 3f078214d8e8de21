use Rattle.std.proofs.Common.{◌≡◌, ◌++◌, map, drop}
use Rattle.copies.proofs.made_opaque.all_opaque.Given as goal

abbrev pub invariant-loop-element : goal.invariant-loop-element
invariant-loop-element g l = l.made ++ map (g.T.MadeOpaque.opaque l.numbers) (drop l.element-index l.elements) ≡ map (g.T.MadeOpaque.opaque l.numbers) l.elements
