pub mod Fields
pub mod Flats
pub mod Places
