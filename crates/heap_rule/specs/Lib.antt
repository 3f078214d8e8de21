pub mod View
pub mod Rule
pub mod Laws
pub mod Places
pub mod Shares
pub mod Stepping
pub mod Seats
