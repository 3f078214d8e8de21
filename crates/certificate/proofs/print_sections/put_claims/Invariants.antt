use Rattle.std.proofs.Common.{◌≡◌, ◌++◌, take}
use Rattle.certificate.specs.Print.{claims_text}
use Rattle.certificate.proofs.print_sections.put_claims.Given as goal

abbrev pub invariant-loop-line : goal.invariant-loop-line
invariant-loop-line l = l.out.items ≡ l.fn.out.items ++ claims_text l.«module» l.function (take l.line-index l.lines)
