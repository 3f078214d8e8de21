pub mod WordPlaces
pub mod Newest
mod ChainTurns
mod CycleCounts
pub mod Leading
