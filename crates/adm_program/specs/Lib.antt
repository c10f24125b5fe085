pub mod Served
pub mod Given
pub mod Does
pub mod Logged
pub mod Arguments
