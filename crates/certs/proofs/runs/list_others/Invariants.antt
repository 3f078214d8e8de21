use Rattle.std.proofs.Common.{◌≡◌, drop}
use Rattle.certs.specs.Runs.{list_others}
use Rattle.certs.proofs.runs.list_others.Given as goal

abbrev pub invariant-loop-claim : goal.invariant-loop-claim
invariant-loop-claim l = list_others l.claims l.run ≡ list_others (drop l.claim-index l.claims) l.run
