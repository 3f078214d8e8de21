use Rattle.std.proofs.Common.{◌≡◌, drop}
use Rattle.recheck.specs.RootShapes.{missing_from}
use Rattle.recheck.proofs.roots.missing_among.Given as goal

abbrev pub invariant-loop-slot : goal.invariant-loop-slot
invariant-loop-slot l = missing_from l.of_module l.function l.slot (drop l.slot l.roots) ≡ missing_from l.of_module l.function 0 l.roots
