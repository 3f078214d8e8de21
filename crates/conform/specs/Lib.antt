pub mod Operations
pub mod Rules
pub mod Discipline
pub mod Threads
pub mod Checks
pub mod Verdicts
