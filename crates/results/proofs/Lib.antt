pub mod ByHandCounting
pub mod ByHandResults
pub mod Scores
