pub mod Flats
pub mod Views
