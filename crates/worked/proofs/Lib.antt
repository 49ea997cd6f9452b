pub mod ByHand
pub mod Worked
