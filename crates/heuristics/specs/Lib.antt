pub mod Layers
pub mod Promises
pub mod Tables
pub mod Checks
