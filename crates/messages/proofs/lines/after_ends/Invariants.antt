use Rattle.std.proofs.Common.{◌≡◌, length}
use Rattle.messages.specs.Lines.{after_ends}
use Rattle.messages.proofs.lines.after_ends.Given as goal

abbrev pub invariant-loop-rest : goal.invariant-loop-rest
invariant-loop-rest l = after_ends l.fn.number l.fn.text ≡ after_ends l.left l.rest

abbrev pub decreases-loop-rest : goal.decreases-loop-rest
decreases-loop-rest l = length l.rest
