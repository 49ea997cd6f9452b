pub mod ByHand
pub mod ByHandSlots
pub mod Filling
pub mod Promised
pub mod Rowed
pub mod Slotted
pub mod Within
