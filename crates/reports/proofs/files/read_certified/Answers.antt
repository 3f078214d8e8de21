use Rattle.std.proofs.Common.{inr, sym, subst}
use Rattle.std.proofs.lemmas.Result.{IfErr-weaker, IfOk-weaker}
use Rattle.reports.specs.Files.{HasModule}
use Rattle.reports.proofs.files.read_certified.Goals as goal

pub returns-clause-of_module : goal.returns-clause-of_module
returns-clause-of_module c =
    IfOk-weaker c.certified_in.result _ _ (λ certified same. subst (HasModule _) (sym same) c.in_ok-of_module.ensures.ok) c.certified_in.ensures.of_module

pub returns-clause-err : goal.returns-clause-err
returns-clause-err c =
    IfErr-weaker c.certified_in.result _ _ (λ unread no. inr (c.in_ok-of_module.of_module, c.in_ok-of_module.ensures.ok, no)) c.certified_in.ensures.err
