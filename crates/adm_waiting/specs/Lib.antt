pub mod Waiting
pub mod Ranks
pub mod Tallies
