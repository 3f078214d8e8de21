pub mod Words
pub mod CellsRead
mod FrameNames
mod Tails
mod Kept
mod Overs
