pub mod Checked
pub mod Sessions
pub mod Texts
pub mod Told
