pub mod Servers
pub mod Answers
pub mod Downloads
pub mod Checks
