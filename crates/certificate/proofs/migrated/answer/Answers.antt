use Rattle.std.proofs.Common.{◌≡◌, List, ℕ, ap, sym, ◌∙◌, subst}
use Rattle.std.proofs.lemmas.Result.{IfOk-weaker}
use Rattle.certificate.specs.Migrated.{migrated_certs}
use Rattle.certificate.proofs.migrated.answer.Goals as goal

pub returns : goal.returns
returns c = IfOk-weaker c.answer_by.result _ _ (λ answer e. (c.in_ok-rows.rows, c.in_ok-rows.ensures, e ∙ ap (λ (rows : List (List ℕ)). migrated_certs c.args.module.now rows c.args.certs.now) c.as_slice.ensures)) c.answer_by.ensures
