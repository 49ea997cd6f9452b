pub mod ByHand
pub mod Rising
pub mod Slotting
pub mod Written
pub mod Promised
pub mod Demand
