pub mod Batches
pub mod Slots
pub mod Literals
pub mod Blocks
pub mod Answering
