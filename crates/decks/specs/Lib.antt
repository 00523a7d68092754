pub mod Words
pub mod Tested
pub mod Decks
