-- What public contracts rest on.
pub mod Places
pub mod Turns
pub mod Owners
pub mod Loops
