pub mod TestedLaws
pub mod First
pub mod Solver
pub mod AllRuns
pub mod Both
pub mod Largest
pub mod DecksProved
