pub mod Earlier
pub mod Heaps
pub mod Pigeons
pub mod Sifts
