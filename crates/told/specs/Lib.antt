pub mod Best
pub mod Participation
pub mod Placing
pub mod Ranking
pub mod Scoring
pub mod Telling
pub mod Text
