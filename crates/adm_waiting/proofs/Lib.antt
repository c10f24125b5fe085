pub mod Sorting
pub mod Positions
pub mod Leaders
pub mod Lots
pub mod SomeFirst
