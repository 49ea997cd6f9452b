pub mod Sets
pub mod InnerTest
pub mod InnerSearch
