pub mod Ahead
pub mod Scored
pub mod Office
pub mod ByHand
