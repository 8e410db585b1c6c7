pub mod Checksums
pub mod Fifths
