use Rattle.std.specs.Prelude.{nat_eq}
use Rattle.indexmap.specs.IndexMap.{get}
use Rattle.facts.specs.Covered.{AreCovered}
use Rattle.facts.proofs.facts.Facts.record_claims.Given as goal

abbrev pub invariant-loop-claim : goal.invariant-loop-claim
invariant-loop-claim l = AreCovered l.self l.there (get nat_eq l.recorded)
