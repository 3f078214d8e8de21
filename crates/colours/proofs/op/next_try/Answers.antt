-- The next cell is the first of those that are left.
use Rattle.colours.proofs.Nexts.{next-more}
use Rattle.colours.proofs.op.next_try.Goals as goal

pub returns-then-cells-ne0-clause-todo : goal.returns-then-cells-ne0-clause-todo
returns-then-cells-ne0-clause-todo c stage = next-more c.args.cells.next c.args.cells.more c.args.cells.first c.args.cells.below c.if-cells-ne0.true
