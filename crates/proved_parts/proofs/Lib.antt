pub mod Ways
pub mod Segments
pub mod Files
pub mod Differences
pub mod Cover
pub mod OwnParts
mod Rising
