pub mod Runs
pub mod Looks
