pub mod CellSets
pub mod Knows
