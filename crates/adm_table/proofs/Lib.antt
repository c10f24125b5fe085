pub mod TableCopies
pub mod OwnKeys
pub mod Runs
pub mod PieceRuns
pub mod PieceRows
