pub mod Tasks
pub mod Verdicts
