pub mod Kinds
pub mod Catalogue
pub mod Promise
pub mod Meaning
