pub mod ByHand
pub mod ByHandCatalogues
pub mod ByHandEntries
pub mod Promised
pub mod Ranges
pub mod Read
