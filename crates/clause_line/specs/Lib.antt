pub mod Line
pub mod LineLength
