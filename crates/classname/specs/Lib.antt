pub mod Find
pub mod Name
pub mod Length
