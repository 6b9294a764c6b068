-- what public contracts rest on
pub mod KeptWays
pub mod Ways
pub mod Standing
pub mod Placing
pub mod Puts
