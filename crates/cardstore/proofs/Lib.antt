pub mod Fills
pub mod Stored
