pub mod ByHand
pub mod ByHandPlaces
pub mod ByHandRules
pub mod Counting
pub mod Reaching
pub mod Tallies
pub mod Turns
