-- what public contracts rest on
pub mod Servers
pub mod Answers
pub mod Downloads
pub mod Checks
