pub mod Counts
pub mod Spots
pub mod Nexts
pub mod Places
pub mod Counted
pub mod View
