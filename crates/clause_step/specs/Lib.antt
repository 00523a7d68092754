pub mod Step
pub mod Shared
pub mod Range
pub mod Calls
pub mod Refusals
pub mod HandsOut
