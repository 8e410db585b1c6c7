pub mod Tag
pub mod Stand
