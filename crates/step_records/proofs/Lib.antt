pub mod Going
pub mod Saying
