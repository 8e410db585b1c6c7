pub mod Header
pub mod Piece
pub mod Short
pub mod Writer
