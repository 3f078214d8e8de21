pub mod Meaning
pub mod Edges
pub mod Goes
pub mod Discipline
