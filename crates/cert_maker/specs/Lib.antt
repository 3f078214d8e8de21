pub mod Made
pub mod Trusting
