pub mod Gap
pub mod Row
