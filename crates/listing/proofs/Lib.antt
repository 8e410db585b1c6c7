pub mod Listings
pub mod Reading
pub mod Rooms
pub mod Sizes
