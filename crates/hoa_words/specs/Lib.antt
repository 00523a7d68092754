pub mod Parts
pub mod Inside
