pub mod Decimals
pub mod NamingLemmas
