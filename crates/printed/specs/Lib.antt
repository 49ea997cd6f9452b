pub mod Sizes
pub mod Report
pub mod InnerCohorts
pub mod Promise
pub mod Meaning
