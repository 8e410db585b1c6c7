pub mod Damages
pub mod Gaps
pub mod Marks
pub mod Reaches
