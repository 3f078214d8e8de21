use Rattle.std.proofs.Common.{◌≡◌, drop}
use Rattle.facts.specs.Contents.{set_of}
use Rattle.facts.specs.Claims.{tie_claims}
use Rattle.fact_tables.specs.Ties.{AreTies}
use Rattle.facts.specs.Tied.{facts_now}
use Rattle.facts.proofs.contents.Contents.tie_by.Given as goal

abbrev pub invariant-loop-claim : goal.invariant-loop-claim
invariant-loop-claim l = record {
  tied : tie_claims l.fn.claims (set_of l.initial.self) ≡ tie_claims (drop l.claim-index l.fn.claims) (facts_now l.ties (set_of l.self));
  ties : AreTies l.ties;
  values : l.self.values.values ≡ l.initial.self.values.values;
}
