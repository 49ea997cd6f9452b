pub mod Back
pub mod Few
pub mod Promised
