pub mod Told
pub mod Missing
