pub mod Types
pub mod Texts
pub mod Replaced
