pub mod Wrote
pub mod Writing
pub mod Decimal
pub mod Digits
pub mod Spelling
