pub mod Asked
pub mod Grammar
