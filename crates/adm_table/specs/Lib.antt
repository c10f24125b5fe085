pub mod TableRows
pub mod Pieces
pub mod Same
