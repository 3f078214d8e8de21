mod Threads
pub mod First
mod Marked
