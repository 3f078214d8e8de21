use Rattle.std.proofs.Common.{◌∙◌, ◌++◌, take, drop, ap, append-nil}
use Rattle.std.proofs.lemmas.Result.{IfOk-weaker}
use Rattle.hunting.proofs.steps.without_lines.Goals as goal

pub returns-clause-steps : goal.returns-clause-steps
returns-clause-steps c =
    let lines = c.args.trace.now.steps in
    IfOk-weaker c.replaced.result _ _ (λ made is. is ∙ ap (λ l. l ++ drop c.args.to lines) (append-nil (take c.args.from lines))) c.replaced.ensures.steps
