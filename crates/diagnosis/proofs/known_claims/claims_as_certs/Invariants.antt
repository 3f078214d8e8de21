use Rattle.std.proofs.Common.{◌≡◌, length}
use Rattle.diagnosis.proofs.known_claims.claims_as_certs.Given as goal

abbrev pub invariant-loop-number : goal.invariant-loop-number
invariant-loop-number l = length l.sections ≡ l._number
