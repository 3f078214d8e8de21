pub mod Accepted
pub mod Answered
pub mod Codes
pub mod Verdicts
