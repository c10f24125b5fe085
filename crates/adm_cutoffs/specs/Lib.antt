pub mod Reasons
pub mod Cutoffs
pub mod Lookups
