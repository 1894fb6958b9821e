pub mod Calls
pub mod Marked
pub mod Refusals
pub mod Searches
