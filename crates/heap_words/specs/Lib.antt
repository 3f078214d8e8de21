pub mod Tokens
pub mod TokenView
pub mod Places
pub mod WordsView
pub mod Endings
pub mod EndingView
pub mod ClosedView
pub mod Opening
