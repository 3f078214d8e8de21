pub mod Commands
pub mod Conforming
pub mod Inputs
pub mod Listing
pub mod Replaying
pub mod Watching
