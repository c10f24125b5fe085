pub mod Roots
pub mod KeyOrder
