pub mod Filed
pub mod Noting
