pub mod Sums
mod Merges
mod Drawn
