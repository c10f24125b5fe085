pub mod Steps
pub mod History
pub mod Imports
pub mod NextRound
pub mod Places
pub mod Sizes
