-- what public contracts rest on
pub mod Fault
pub mod Limits
pub mod Servers
pub mod ToldPath
