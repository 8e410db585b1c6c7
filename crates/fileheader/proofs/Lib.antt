pub mod Agrees
pub mod Opens
