pub mod TypeKinds
pub mod WantedWords
