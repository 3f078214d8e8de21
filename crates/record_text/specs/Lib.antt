pub mod Entries
pub mod Recorded
pub mod Records
pub mod Written
