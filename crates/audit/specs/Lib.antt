pub mod Examined
pub mod Listing
pub mod Rows
pub mod Tables
