pub mod Beginnings
pub mod Told
pub mod Ends
