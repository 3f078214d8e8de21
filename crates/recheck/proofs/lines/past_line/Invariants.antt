use Rattle.std.proofs.Common.{◌≡◌, length}
use Rattle.recheck.specs.Lines.{past_line}
use Rattle.recheck.proofs.lines.past_line.Given as goal

abbrev pub invariant-loop-rest : goal.invariant-loop-rest
invariant-loop-rest l = past_line l.bytes ≡ past_line l.rest

abbrev pub decreases-loop-rest : goal.decreases-loop-rest
decreases-loop-rest l = length l.rest
