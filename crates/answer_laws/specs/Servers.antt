-- what public contracts rest on
pub mod Telling
pub mod Again
