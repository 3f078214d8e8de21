pub mod CertLines
pub mod Instructions
pub mod Lines
