pub mod Creation
pub mod Exits
pub mod Found
pub mod Reports
pub mod Texts
