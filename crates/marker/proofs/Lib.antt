pub mod Whole
pub mod Passing
