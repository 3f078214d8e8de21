pub mod Fields
pub mod NoneThere
pub mod Stars
pub mod Values
pub mod Worked
