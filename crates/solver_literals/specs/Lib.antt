pub mod Giving
pub mod Literals
