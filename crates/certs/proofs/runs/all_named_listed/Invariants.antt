use Rattle.std.proofs.Common.{◌≡◌, drop}
use Rattle.std.specs.List.{list_all}
use Rattle.certs.specs.Fits.{all_named_listed, lists_named, named_in}
use Rattle.certs.proofs.runs.all_named_listed.Given as goal

abbrev pub invariant-loop-claim : goal.invariant-loop-claim
invariant-loop-claim l = all_named_listed l.claims ≡ list_all (λ claim. lists_named l.claims (named_in claim)) (drop l.claim-index l.claims)
