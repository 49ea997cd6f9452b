pub mod Admissible
pub mod Rules
pub mod Promise
pub mod Computed
pub mod Examples
