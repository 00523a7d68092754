pub mod SearchEdges
pub mod WordsRise
pub mod SearchComplete
pub mod Entering
pub mod Expanding
pub mod Exploring
pub mod ClosestLoop
pub mod FirstLasso
