pub mod Scores
pub mod Rows
pub mod Promise
pub mod Meaning
