-- What public contracts rest on.
pub mod Addresses
pub mod Marks
pub mod Servers
