-- what is told of how far a command is
pub mod ProgressLine
