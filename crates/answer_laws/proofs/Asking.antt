pub mod Records
pub mod Downloads
pub mod Checks
