pub mod Local
pub mod Laws
pub mod Answers
pub mod Edited
pub mod KeptRows
