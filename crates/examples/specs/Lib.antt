pub mod Records
pub mod Worked
