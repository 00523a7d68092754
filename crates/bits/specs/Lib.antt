pub mod Powers
pub mod Sets
pub mod SetLaws
pub mod SingleSets
pub mod Members
