pub mod Batches
pub mod Files
