use Rattle.std.proofs.Common.{◌≡◌, drop}
use Rattle.certificate.specs.ShapeDrafts.{roots_gap}
use Rattle.certificate.proofs.shape_draft.roots_gap.Given as goal

abbrev pub invariant-loop-number : goal.invariant-loop-number
invariant-loop-number l = roots_gap l.draft 0 l.functions ≡ roots_gap l.draft l.number (drop l.number l.functions)
