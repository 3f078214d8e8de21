pub mod Breaches
pub mod Serving
pub mod Tries
pub mod Endings
pub mod Jobs
