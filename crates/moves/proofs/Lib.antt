pub mod Losses
pub mod Wins
