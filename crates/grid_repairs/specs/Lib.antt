-- what public contracts rest on
pub mod Checks
pub mod Remaking
pub mod Repairs
