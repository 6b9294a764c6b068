pub mod Servers
pub mod Downloads
pub mod Checks
pub mod Asking
pub mod Enough
