pub mod Held
pub mod InnerCounts
pub mod Taking
pub mod Judging
pub mod Reading
pub mod Promise
pub mod Meaning
