pub mod Codes
pub mod Verdicts
