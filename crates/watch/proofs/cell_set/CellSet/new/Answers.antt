use Rattle.std.proofs.Common.{arith}
use Rattle.watch.proofs.Rounds.{first_set}
use Rattle.watch.proofs.cell_set.CellSet.new.Goals as goal

pub returns : goal.returns
returns c = first_set 1 c.args.cells c.in_ok-stamps.stamps.items (omega arith) (c.in_ok-stamps.ensures.items_if_clones_equal (λ y h. h))
