use Rattle.std.proofs.Common.{◌≡◌, drop}
use Rattle.certificate.specs.ShapeDrafts.{slot_gap}
use Rattle.certificate.proofs.shape_draft.slot_gap.Given as goal

abbrev pub invariant-loop-slot : goal.invariant-loop-slot
invariant-loop-slot l = slot_gap l.draft l.number l.function 0 l.slots ≡ slot_gap l.draft l.number l.function l.slot (drop l.slot l.slots)
