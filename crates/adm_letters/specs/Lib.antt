pub mod Answers
pub mod Lines
pub mod LetterLines
pub mod Letters
pub mod Lists
pub mod Pairs
pub mod Reports
