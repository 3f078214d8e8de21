pub mod Accepted
pub mod OneLayout
pub mod Exclusive
pub mod Discipline
pub mod Refusals
pub mod Trusts
