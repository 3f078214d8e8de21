use Rattle.std.proofs.Common.{◌≡◌, take}
use Rattle.certificate.proofs.replaced.copied_sections.Given as goal

abbrev pub invariant-loop-section : goal.invariant-loop-section
invariant-loop-section l = l.copies ≡ take l.section-index l.fn.sections
