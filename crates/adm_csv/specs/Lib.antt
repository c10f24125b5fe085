pub mod Reading
pub mod Kinds
pub mod Cells
pub mod Rows
pub mod Ended
pub mod Remaining
