pub mod Placing
pub mod Bands
pub mod Promise
pub mod InnerReady
pub mod Given
pub mod TwoCalls
