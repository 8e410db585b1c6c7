pub mod Decimals
pub mod Examples
pub mod Listed
pub mod Puts
pub mod Reports
pub mod Words
