use Rattle.std.proofs.Common.{List, ap, ◌∙◌, Bool}
use Rattle.watch.specs.CellSets.{with_cells}
use Rattle.watch.proofs.Answers.{answered_known}
use Rattle.watch.proofs.holdings.Holdings.answered.Goals as goal

pub returns : goal.returns
returns c = λ s log stage may k.
    answered_known s log stage c.args.roots.now c.args.self.now _ (c.add_all.ensures ∙ ap (λ (set : List Bool). with_cells set c.args.roots.now) c.clear-2.ensures) c.clear.ensures may k
