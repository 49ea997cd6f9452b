pub mod Results
pub mod Counting
pub mod Scoring
