pub mod Profiles
