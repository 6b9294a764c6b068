mod Reading
mod Naming
pub mod Agreeing
pub mod Marking
pub mod OperationLines
pub mod Planning
pub mod Plays
