pub mod Card
pub mod Read
pub mod Promise
