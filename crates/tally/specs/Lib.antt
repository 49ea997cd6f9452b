pub mod Counts
pub mod Places
pub mod Rules
pub mod Inner
pub mod InnerSearch
pub mod InnerTally
pub mod Examples
