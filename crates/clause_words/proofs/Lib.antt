pub mod Signs
pub mod Spelling
