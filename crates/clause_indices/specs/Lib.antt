pub mod Indices
pub mod Literals
