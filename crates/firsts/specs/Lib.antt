pub mod Counts
pub mod Row
pub mod InnerAmong
pub mod Promise
