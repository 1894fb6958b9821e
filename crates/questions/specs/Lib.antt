pub mod Input
pub mod Lines
