pub mod Sources
pub mod Searches
