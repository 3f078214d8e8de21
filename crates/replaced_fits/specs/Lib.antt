pub mod Closed
pub mod ReplacedFits
