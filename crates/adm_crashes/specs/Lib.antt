pub mod Steps
pub mod Rounds
pub mod Crashes
pub mod Restart
