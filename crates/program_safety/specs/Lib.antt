pub mod Threads
pub mod Sound
pub mod Safety
