pub mod Follows
pub mod Passes
pub mod Stretches
