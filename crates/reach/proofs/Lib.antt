pub mod Stores
pub mod Closures
pub mod Pairs
pub mod Rows
