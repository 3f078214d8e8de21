pub mod Named
pub mod Recorded
