pub mod AtEnd
pub mod Followed
pub mod Parameters
