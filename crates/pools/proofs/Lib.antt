pub mod WordBits
