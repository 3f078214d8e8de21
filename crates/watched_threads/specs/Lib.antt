pub mod Jobs
pub mod Ends
pub mod Reports
