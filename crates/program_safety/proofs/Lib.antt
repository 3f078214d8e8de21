pub mod Roots
pub mod Steps
pub mod Threads
