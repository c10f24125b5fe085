pub mod KeyLemmas
pub mod Puts
