pub mod Laws
pub mod KeptSets
pub mod Tested
