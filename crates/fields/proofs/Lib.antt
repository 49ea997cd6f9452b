pub mod ByHand
pub mod ByHandTags
pub mod Fitting
pub mod Headed
pub mod Inverse
pub mod Pieces
