pub mod FromPieces
pub mod Bringing
pub mod SoFar
pub mod Whole
