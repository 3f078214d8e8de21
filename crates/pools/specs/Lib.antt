pub mod Layouts
pub mod Heap
pub mod Pools
pub mod WordSets
pub mod Ends
pub mod WordBits
