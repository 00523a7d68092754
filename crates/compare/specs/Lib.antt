pub mod Compared
pub mod Verdicts
pub mod Differences
pub mod Bounds
pub mod Searched
