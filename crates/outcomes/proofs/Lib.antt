pub mod Bounded
pub mod Collecting
pub mod Standing
