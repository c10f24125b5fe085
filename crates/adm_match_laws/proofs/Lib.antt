pub mod FirstBlock
pub mod Generous
pub mod FullSchools
pub mod OneBest
pub mod AnyList
mod HeldChildren
mod Lost
mod GroupGains
