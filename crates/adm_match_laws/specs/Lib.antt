pub mod Blocks
pub mod Generous
pub mod FullSchools
pub mod AnyList
pub mod Children
pub mod Groups
