pub mod Steps
pub mod InTurn
pub mod Owners
pub mod Looping
