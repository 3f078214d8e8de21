pub mod Outcome
pub mod Laws
pub mod Grammar
pub mod Takes
pub mod Many
pub mod Collected
pub mod Turns
pub mod Whole
