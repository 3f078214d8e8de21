pub mod Marked
pub mod Roots
pub mod Whole
pub mod Words
