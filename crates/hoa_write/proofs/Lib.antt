pub mod Writing
pub mod Cases
pub mod Values
pub mod Answers
