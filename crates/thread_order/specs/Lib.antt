pub mod Marks
pub mod Standings
pub mod Follows
pub mod Orders
pub mod View
