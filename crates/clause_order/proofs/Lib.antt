pub mod Carries
pub mod Widths
