pub mod Places
pub mod Plainly
