pub mod Blocks
pub mod Faults
pub mod Cards
pub mod Loops
pub mod Fills
pub mod Promises
