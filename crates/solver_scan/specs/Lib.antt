pub mod SolverText
pub mod Scanning
pub mod Cases
pub mod Words
pub mod Places
