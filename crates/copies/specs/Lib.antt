pub mod Tables
pub mod Opaque
