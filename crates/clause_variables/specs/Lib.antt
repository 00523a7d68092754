pub mod FirstPaths
pub mod FirstRows
pub mod Kept
pub mod PathLaws
