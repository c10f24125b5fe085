pub mod Found
pub mod Schools
pub mod Changes
pub mod Writes
pub mod Creating
pub mod Migration
