pub mod Imports
pub mod Opened
pub mod Outcomes
pub mod Runs
