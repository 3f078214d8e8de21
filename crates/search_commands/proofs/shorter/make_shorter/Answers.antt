use Rattle.std.proofs.Common.{◌∙◌, ◌≤◌, ap, sym, subst}
use Rattle.std.proofs.lemmas.Result.{IfOk-weaker}
use Rattle.replay.specs.declared.outcome.Break.{Break}
use Rattle.hunting.specs.Shorter.{kind_of}
use Rattle.search_commands.proofs.shorter.make_shorter.Goals as goal

pub returns-in-Ok-clause-kind : goal.returns-in-Ok-clause-kind
returns-in-Ok-clause-kind c =
    IfOk-weaker c.save_shorter.result _ _ (λ b same. ap (λ (broken : Break). kind_of broken.cause) same ∙ c.in-Ok.ensures.kind) c.save_shorter.ensures.broken

pub returns-in-Ok-clause-tries : goal.returns-in-Ok-clause-tries
returns-in-Ok-clause-tries c =
    IfOk-weaker c.save_shorter.result _ _ (λ b same. subst (λ tries. tries ≤ c.args.wish.tries) (sym same) c.in-Ok.ensures.tries) c.save_shorter.ensures.tries
