pub mod Fills
pub mod Listings
pub mod Rulings
pub mod Turns
pub mod Verdicts
