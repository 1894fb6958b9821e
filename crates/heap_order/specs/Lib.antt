pub mod Heaps
pub mod Order
