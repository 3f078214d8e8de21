pub mod Lists
pub mod Bounds
pub mod Beginnings
pub mod Tokens
pub mod Runs
pub mod Plans
pub mod Ends
