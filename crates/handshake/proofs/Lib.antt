pub mod Law
pub mod Safepoints
