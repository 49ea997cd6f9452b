pub mod ByHand
pub mod ByHandText
pub mod Digits
pub mod Fits
pub mod Joining
pub mod Means
