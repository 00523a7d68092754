pub mod Coding
pub mod Spacing
