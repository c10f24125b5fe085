pub mod Pairs
pub mod Walks
pub mod Wants
pub mod ListedSchools
pub mod Faultless
pub mod GivenToApplicants
pub mod OneBest
