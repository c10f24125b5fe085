pub mod NextRun
pub mod SuccessiveRuns
pub mod Birth
pub mod OneRun
pub mod Recorded
pub mod Effects
pub mod Exchanges
pub mod FoundAgain
