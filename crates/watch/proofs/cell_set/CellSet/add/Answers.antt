use Rattle.watch.proofs.Rounds.{added}
use Rattle.watch.proofs.cell_set.CellSet.add.Goals as goal

pub returns-then-place-len : goal.returns-then-place-len
returns-then-place-len c = added c.self.inside.round c.self.inside.stamps.items c.args.cell c.args.self.now c.self.view_is
