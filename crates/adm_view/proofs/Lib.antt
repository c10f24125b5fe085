pub mod Walks
pub mod Rows
pub mod Positions
pub mod Plain
pub mod Given
pub mod Left
