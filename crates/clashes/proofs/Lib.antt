pub mod Masking
pub mod Pairing
