use Rattle.watch.proofs.Rounds.{removed}
use Rattle.watch.proofs.cell_set.CellSet.remove.Goals as goal

pub returns-then-place-len : goal.returns-then-place-len
returns-then-place-len c = removed c.self.inside.round c.self.inside.stamps.items c.args.cell c.args.self.now c.self.invariant.0 c.self.view_is
