use Rattle.std.proofs.Common.{◌≡◌, drop}
use Rattle.certificate.specs.ShapeDrafts.{words_gap}
use Rattle.certificate.proofs.shape_draft.words_gap.Given as goal

abbrev pub invariant-loop-layout : goal.invariant-loop-layout
invariant-loop-layout l = words_gap l.draft 0 l.structs ≡ words_gap l.draft l.layout (drop l.layout l.structs)
