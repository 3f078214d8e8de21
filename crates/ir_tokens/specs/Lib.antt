pub mod Bytes
pub mod Form
pub mod Keywords
pub mod Names
pub mod Position
pub mod Tokens
pub mod Laws
