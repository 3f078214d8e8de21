pub mod Steps
pub mod Upcoming
pub mod Recorded
pub mod Logs
pub mod LogView
