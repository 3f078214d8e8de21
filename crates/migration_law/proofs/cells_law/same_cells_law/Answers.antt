use Rattle.migration_law.proofs.MigratedCells.{migrated_cells}
use Rattle.migration_law.proofs.WholeTables.{whole_before}
use Rattle.migration_law.proofs.cells_law.same_cells_law.Goals as goal

pub returns-clause-cells : goal.returns-clause-cells
returns-clause-cells c = migrated_cells

pub returns-clause-before : goal.returns-clause-before
returns-clause-before c = whole_before
