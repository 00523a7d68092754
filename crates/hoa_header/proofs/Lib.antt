mod Tokens
mod Kept
mod Turns
mod Opened
