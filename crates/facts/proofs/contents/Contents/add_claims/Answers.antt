use Rattle.std.proofs.Common.{sym, subst}
use Rattle.facts.specs.Contents.{set_of}
use Rattle.facts.specs.Facts.{FactSet}
use Rattle.facts.specs.Tied.{AreOwn}
use Rattle.facts.proofs.Owned.{own_claims}
use Rattle.facts.proofs.contents.Contents.add_claims.Goals as goal

pub tie_claims-requires : goal.tie_claims-requires
tie_claims-requires c =
    subst (λ (f : FactSet). AreOwn f.values) (sym c.in_ok-list_claims.ensures.ok) (own_claims c.args.table.now c.args.claims.now (set_of c.args.self.now) c.requires)
