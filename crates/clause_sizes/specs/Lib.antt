pub mod Targets
pub mod Sizes
pub mod Numbers
pub mod SizedNumbers
pub mod Measured
pub mod Limits
pub mod Conjunctions
