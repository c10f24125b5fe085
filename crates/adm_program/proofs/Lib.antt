pub mod Doing
pub mod Logging
pub mod Served
pub mod Wording
