pub mod Replies
pub mod Judged
pub mod Calls
pub mod Moves
pub mod Kept
pub mod Lists
pub mod Heard
