pub mod Called
pub mod Example
pub mod Worked
