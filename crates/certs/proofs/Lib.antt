pub mod SlotRoots
pub mod WordSets
pub mod ClaimRuns
