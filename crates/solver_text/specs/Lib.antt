pub mod Machine
pub mod Calls
pub mod Answered
pub mod Objection
