pub mod Tokens
mod AcceptanceLaws
