use Rattle.std.proofs.Common.{◌≡◌, drop}
use Rattle.certificate.specs.Text.{first_gap}
use Rattle.certificate.proofs.reader.first_gap.Given as goal

abbrev pub invariant-loop-function : goal.invariant-loop-function
invariant-loop-function l = first_gap 0 l.sections ≡ first_gap l.function (drop l.function l.sections)
