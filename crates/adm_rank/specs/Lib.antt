pub mod Distance
pub mod Class
pub mod Ranking
