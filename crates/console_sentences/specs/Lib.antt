pub mod Sentences
pub mod Patterns
