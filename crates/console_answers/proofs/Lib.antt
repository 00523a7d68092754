pub mod Offsets
pub mod Places
pub mod Replies
pub mod Answered
pub mod Further
pub mod Closing
pub mod Ending
