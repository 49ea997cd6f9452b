pub mod ByTally
