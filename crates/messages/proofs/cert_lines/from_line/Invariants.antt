use Rattle.std.proofs.Common.{◌≡◌, true, length}
use Rattle.messages.specs.CertLines.{from_line}
use Rattle.messages.proofs.cert_lines.from_line.Given as goal

abbrev pub invariant-loop-rest : goal.invariant-loop-rest
invariant-loop-rest l = from_line l.fn.sought l.fn.first l.fn.second l.fn.number true l.fn.text ≡ from_line l.sought l.first l.second l.left l.begins l.rest

abbrev pub decreases-loop-rest : goal.decreases-loop-rest
decreases-loop-rest l = length l.rest
