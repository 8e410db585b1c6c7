pub mod Trees
pub mod Keeping
