pub mod Before
pub mod Changes
pub mod KnownClaims
