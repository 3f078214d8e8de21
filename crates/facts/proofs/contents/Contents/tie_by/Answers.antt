use Rattle.std.proofs.Common.{ap, refl, sym}
use Rattle.facts.specs.Contents.{set_of}
use Rattle.facts.specs.Claims.{tie_claims}
use Rattle.facts.proofs.Settled.{alone_facts}
use Rattle.facts.proofs.contents.Contents.tie_by.Goals as goal

pub loop-claim-init : goal.loop-claim-init
loop-claim-init c = record {
  tied = ap (tie_claims c.args.claims.now) (sym (alone_facts c.args.ties.now c.requires.alone (set_of c.args.self.now)));
  ties = c.requires.ties;
  values = refl;
}
