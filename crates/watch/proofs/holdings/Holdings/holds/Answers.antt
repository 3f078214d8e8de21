use Rattle.std.proofs.Common.{sym, ◌∙◌}
use Rattle.watch.proofs.Answers.{held_cell}
use Rattle.watch.proofs.holdings.Holdings.holds.Goals as goal

pub returns-clause-cell : goal.returns-clause-cell
returns-clause-cell c = λ s log k is. held_cell s log c.args.self.now k c.args.cell (sym c.has.ensures ∙ is)
