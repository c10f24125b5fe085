pub mod Closing
pub mod Fresh
pub mod Refusing
pub mod Wording
