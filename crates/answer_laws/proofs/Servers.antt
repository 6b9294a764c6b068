pub mod Telling
pub mod Again
pub mod Acknowledged
