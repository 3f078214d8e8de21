use Rattle.std.proofs.Common.{◌≡◌, length}
use Rattle.colours.specs.Calls.{marks_of_all}
use Rattle.handshake.proofs.safepoint.first_root.Given as goal

abbrev pub invariant-loop-rest : goal.invariant-loop-rest
invariant-loop-rest l = marks_of_all l.rest ≡ marks_of_all l.fn.roots

abbrev pub decreases-loop-rest : goal.decreases-loop-rest
decreases-loop-rest l = length l.rest
