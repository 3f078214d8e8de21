use Rattle.std.proofs.Common.{◌≡◌, drop}
use Rattle.certificate.specs.ShapeDrafts.{globals_gap}
use Rattle.certificate.proofs.shape_draft.globals_gap.Given as goal

abbrev pub invariant-loop-global : goal.invariant-loop-global
invariant-loop-global l = globals_gap l.«module» l.draft l.globals ≡ globals_gap l.«module» l.draft (drop l.global-index l.globals)
