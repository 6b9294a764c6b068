-- what public contracts rest on
pub mod Asked
pub mod Downloads
pub mod Checks
