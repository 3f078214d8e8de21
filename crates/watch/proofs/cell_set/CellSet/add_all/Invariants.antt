use Rattle.std.proofs.Common.{◌≡◌, drop}
use Rattle.watch.specs.CellSets.{with_cells}
use Rattle.watch.proofs.cell_set.CellSet.add_all.Given as goal

abbrev pub invariant-loop-cell : goal.invariant-loop-cell
invariant-loop-cell l = with_cells l.self (drop l.cell-index l.cells) ≡ with_cells l.initial.self l.cells
