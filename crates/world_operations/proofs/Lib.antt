pub mod Positions
mod Tests
pub mod TaskMoves
pub mod TaskRuns
pub mod Frames
pub mod Beginnings
pub mod Uploads
pub mod Sending
pub mod Changing
