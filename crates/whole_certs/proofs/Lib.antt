pub mod AllShapes
pub mod PointerWords
pub mod Ranges
pub mod RootSlots
