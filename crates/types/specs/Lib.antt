pub mod References
pub mod RuntimeCall
pub mod Elements
pub mod ValueTypes
pub mod Globals
pub mod LayoutNumbers
