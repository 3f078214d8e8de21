use Rattle.std.proofs.Common.{◌≡◌, drop}
use Rattle.facts.specs.Contents.{set_of}
use Rattle.facts.specs.Claims.{hold_claims}
use Rattle.facts.proofs.contents.Contents.hold_claims.Given as goal

abbrev pub invariant-loop-claim : goal.invariant-loop-claim
invariant-loop-claim l = record {
  rest : hold_claims l.table l.fn.claims (set_of l.initial.self) ≡ hold_claims l.table (drop l.claim-index l.fn.claims) (set_of l.self);
}
