pub mod Clashing
pub mod Bridge
pub mod Judging
pub mod Marking
pub mod Usable
