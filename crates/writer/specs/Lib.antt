pub mod Sized
pub mod Tested
