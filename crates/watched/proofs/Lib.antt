pub mod Bits
pub mod Items
pub mod Steps
pub mod Words
