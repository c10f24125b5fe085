pub mod Draws
pub mod Grouped
