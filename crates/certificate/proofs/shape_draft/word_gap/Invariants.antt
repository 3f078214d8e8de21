use Rattle.std.proofs.Common.{◌≡◌, drop}
use Rattle.certificate.specs.ShapeDrafts.{word_gap}
use Rattle.certificate.proofs.shape_draft.word_gap.Given as goal

abbrev pub invariant-loop-word : goal.invariant-loop-word
invariant-loop-word l = word_gap l.draft l.layout l.name 0 l.pointers ≡ word_gap l.draft l.layout l.name l.word (drop l.word l.pointers)
