pub mod Adding
pub mod Said
