pub mod Finds
pub mod Lengths
pub mod Names
pub mod Tables
