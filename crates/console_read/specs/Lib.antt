pub mod Counts
pub mod Reading
