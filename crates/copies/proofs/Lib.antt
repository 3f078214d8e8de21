pub mod Added
pub mod TypesMore
