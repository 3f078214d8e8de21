pub mod Barriers
pub mod Tries
pub mod Arrivals
pub mod Nexts
