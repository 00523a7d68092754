pub mod Laws
pub mod Filling
pub mod Comparing
pub mod Tabling
pub mod Answering
