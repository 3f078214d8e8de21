use Rattle.migration_law.proofs.ForeignAfter.{foreign_migrated}
use Rattle.migration_law.proofs.SectionsAfter.{migrated_fit}
use Rattle.migration_law.proofs.TypedModules.{printable_typed}
use Rattle.migration_law.proofs.fits_law.migrated_law.Goals as goal

pub returns-clause-fits : goal.returns-clause-fits
returns-clause-fits c = migrated_fit

pub returns-clause-foreign : goal.returns-clause-foreign
returns-clause-foreign c = foreign_migrated

pub returns-clause-typed : goal.returns-clause-typed
returns-clause-typed c = printable_typed
