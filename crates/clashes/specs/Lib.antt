pub mod InnerMasks
pub mod InnerPairs
