pub mod Parts
pub mod Shorter
pub mod Biased
pub mod Hunts
pub mod Happened
