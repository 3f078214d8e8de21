use Rattle.std.proofs.Common.{sym, subst, length}
use Rattle.facts.specs.Facts.{FactSet}
use Rattle.facts.specs.Tied.{AreOwn}
use Rattle.facts.proofs.Owned.{own_nothing}
use Rattle.facts.proofs.contents.Contents.begin.Goals as goal

pub add_claims-requires : goal.add_claims-requires
add_claims-requires c = subst (λ (f : FactSet). AreOwn f.values) (sym c.clear.ensures) (own_nothing (length c.args.self.now.values.values))
