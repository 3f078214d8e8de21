use Rattle.std.proofs.Common.{◌≡◌, ◌∙◌, ℕ, ◌∷◌, ◌++◌, take, drop, ap}
use Rattle.std.proofs.lemmas.Result.{IfOk-weaker}
use Rattle.hunting.specs.Parts.{with_at_most}
use Rattle.hunting.proofs.steps.with_fewer_steps.Goals as goal

pub returns-clause-steps : goal.returns-clause-steps
returns-clause-steps c line there =
    let lines = c.args.trace.now.steps in
    IfOk-weaker c.with_line_cut.result _ _
    (λ made is. is ∙ ap (λ (n : ℕ). take c.args.place lines ++ with_at_most c.args.count line ∷ drop n lines) c.after.ensures) (c.with_line_cut.ensures.steps line there)
