pub mod Stores
pub mod Tested
