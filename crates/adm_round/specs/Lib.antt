pub mod Round
pub mod Ranks
pub mod Lookups
pub mod Outcomes
