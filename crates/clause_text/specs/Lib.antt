pub mod Kept
pub mod Blocks
pub mod Filling
pub mod Answers
pub mod NextLine
pub mod Batches
pub mod LinesOut
