pub mod FiniteDomain
pub mod Frame
pub mod Numbers
pub mod Strips
