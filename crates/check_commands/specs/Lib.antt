pub mod Checks
pub mod Explained
pub mod Lowering
pub mod Migrating
pub mod Rechecks
pub mod EditedFiles
pub mod Accepted
