pub mod Answers
pub mod Fits
pub mod Expected
pub mod Kept
pub mod Opening
