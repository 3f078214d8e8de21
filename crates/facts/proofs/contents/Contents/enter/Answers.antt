use Rattle.std.proofs.Common.{sym, subst, Result, Ok, Err, IfOk}
use Rattle.facts.specs.Contents.{set_of}
use Rattle.facts.specs.TakenBack.{DifferBy}
use Rattle.facts.proofs.TakenBack.{dropped_all}
use Rattle.facts.proofs.contents.Contents.enter.Goals as goal

-- what holds where it went well leads on
if_ok : {A E : Type 0} (P Q : A → Type 0) (r : Result A E) → ((a : A) → P a → Q a) → IfOk r P → IfOk r Q
if_ok P Q (Ok a) f p = f a p
if_ok P Q (Err e) f p = tt

pub returns-clause-back : goal.returns-clause-back
returns-clause-back c = if_ok _ _ c.enter_phis.result
    (λ back keeps e. keeps e (set_of c.args.self.now) (subst (DifferBy c.args.entries.now (set_of c.args.self.now)) (sym c.drop_fresh_all.ensures) (dropped_all c.args.entries.now (set_of c.args.self.now))))
    c.enter_phis.ensures.back
