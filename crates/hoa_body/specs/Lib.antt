pub mod Answers
pub mod Tables
pub mod Parts
pub mod States
pub mod Edges
