pub mod Rising
pub mod RowOrder
pub mod Gathered
pub mod FromRows
pub mod RepeatedLots
