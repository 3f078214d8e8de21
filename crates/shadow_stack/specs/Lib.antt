pub mod Slots
pub mod Hops
