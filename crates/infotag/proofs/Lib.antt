pub mod Words
pub mod Tags
pub mod Stands
