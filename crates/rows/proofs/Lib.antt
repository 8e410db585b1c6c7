pub mod Gaps
pub mod Parts
pub mod Searches
