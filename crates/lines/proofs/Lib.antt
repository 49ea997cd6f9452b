pub mod Lining
pub mod Puts
