use Rattle.std.proofs.Common.{◌≡◌, ◌++◌, drop, length}
use Rattle.certificate.specs.Migrated.{sections_from}
use Rattle.certificate.proofs.migrated.migrated_sections.Given as goal

abbrev pub invariant-loop-section : goal.invariant-loop-section
invariant-loop-section l = l.migrated ++ sections_from l.«module» (length l.migrated) (drop l.section-index l.sections) ≡ sections_from l.«module» 0 l.sections
