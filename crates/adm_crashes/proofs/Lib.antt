pub mod RoundLemmas
pub mod FoundLemmas
pub mod CommandLemmas
pub mod StartLemmas
pub mod Runs
