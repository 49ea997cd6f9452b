pub mod Fields
pub mod Tags
pub mod Order
pub mod Inner
