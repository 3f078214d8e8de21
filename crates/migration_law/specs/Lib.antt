pub mod MigratedFits
pub mod TypedModules
pub mod PartsBefore
pub mod MigratedCells
pub mod OpaquePrintable
