pub mod Sums
pub mod SharingCount
pub mod ClosureCount
pub mod Header
